use Rattle.std.proofs.Common.{◌≡◌, ◌-◌, ◌≤◌, [], ◌∷◌, ◌++◌, map, length, replicate, ap, ◌∙◌, arith, rules}
use Rattle.std.specs.List.{flat_map}
use Rattle.std.proofs.lemmas.List.{append_assoc, take_all}
use Rattle.std.proofs.lemmas.Iterator.{YieldsList-from_slice, YieldsList-from_map}
use Rattle.std.proofs.lemmas.Iterator.Adapters.{items_from_extend}
use Rattle.std.proofs.lemmas.Iterator.Consumers.{YieldsList-from_copied}
use Rattle.capture.specs.Rows.{hex_of, readable_of, padded}
use Rattle.capture.proofs.rows.row.Goals as goal

pub returns : goal.returns
returns c =
    let xs = c.args.bytes.now in
    let line = c.in_ok-line.line in
    let w = c.max-width.result in
    let made : line.items ≡ flat_map hex_of xs = c.in_ok-line.ensures in
    let count = line.ok.0 in
    let long : length line.items ≤ w = omega (arith, count) in
    let rest : w - line.len ≡ 48 - length line.items = omega (arith, count) in
    let pad : c.resize.new.self.items ≡ padded (flat_map hex_of xs) = c.in_ok-resize.ensures.items ∙ (ap (λ t. t ++ replicate (w - line.len) 0x20) (take_all w line.items long) ∙ (ap (λ n. line.items ++ replicate n 0x20) rest ∙ ap padded made)) in
    let came = items_from_extend c.extend.result c.extend.ensures.ran (YieldsList-from_map _ readable_of (YieldsList-from_copied (YieldsList-from_slice xs cc)) c.map.ensures.closure (λ x r q k. search rules)) in
    let read : c.extend.new.self.items ≡ c.push.new.self.items ++ map readable_of xs = search rules in
    let front = padded (flat_map hex_of xs) ++ 0x7C ∷ [] in
    c.in_ok-push-2.ensures.items
    ∙ (ap (λ t. t ++ 0x7C ∷ []) (read ∙ ap (λ t. t ++ map readable_of xs) (c.in_ok-push.ensures.items ∙ ap (λ t. t ++ 0x7C ∷ []) pad))
    ∙ append_assoc front (map readable_of xs) (0x7C ∷ []))
