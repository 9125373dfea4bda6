use Rattle.std.proofs.Common.{◌++◌, ap, ◌∙◌}
use Rattle.std.specs.List.{flat_map}
use Rattle.capture.specs.Rows.{hex_of}
use Rattle.capture.proofs.Flat.{flat_mapped}
use Rattle.capture.proofs.rows.hexed.Goals as goal

pub returns : goal.returns
returns c =
    let triples = c.deref.ensures.value ∙ c.in_ok-triples.ensures in
    let flat = c.as_flattened.ensures.value ∙ (ap (flat_map (λ x. x)) triples ∙ flat_mapped hex_of c.args.bytes.now) in
    c.in_ok-extend_from_slice.ensures.items ∙ (ap (λ t. t ++ c.as_flattened.result.now) c.new-line.ensures.items ∙ flat)
