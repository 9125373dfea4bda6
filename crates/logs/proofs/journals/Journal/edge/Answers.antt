use Rattle.std.proofs.Common.{◌≡◌, suc, ◌+◌, length, sym, ap, ◌∙◌, arith}
use Rattle.packed_messages.specs.Packed.{edge}
use Rattle.packed_messages.proofs.Filed.{edge_mono}
use Rattle.logs.specs.Layout.{base, gap, walked, record_end}
use Rattle.logs.proofs.journals.Journal.edge.Goals as goal

pub loop-n-init : goal.loop-n-init
loop-n-init c =
    let s = c.args.self.now in
    let n = c.min-n.result in (
      c.edge_at-at.ensures
          ∙ ap (λ t. edge base t n) c.deref.ensures.value
          ∙ s.indexed.1 n (omega arith)
          ∙ ap (λ t. walked t n) (sym c.memory-memory.ensures),
      omega arith,
    )

pub record_end-at-requires : goal.record_end-at-requires
record_end-at-requires c =
    let s = c.args.self.now in
    let mem = s.packed.memory.items in
    let n = c.loop-n.n in
    let long = ap length c.memory-memory.ensures in
    let here = ap (λ t. walked t n) c.memory-memory.ensures in
    let up = s.edges.rising n (omega arith) in
    let top = edge_mono (walked mem) gap s.packed.count s.edges.rising (suc n) (omega arith) in
    let last = s.edges.last in
    (omega (arith, c.loop-n.invariant.0, here, up.0, top, last, long), omega (arith, long))

pub loop-n-preserved : goal.loop-n-preserved
loop-n-preserved c =
    let mem = c.memory-memory.result.now in
    let n = c.loop-n.n in
    let z : suc n ≡ n + 1 = omega arith in
    (c.record_end-at.ensures ∙ ap (record_end mem) c.loop-n.invariant.0 ∙ ap (walked mem) z, omega arith)

pub returns : goal.returns
returns c =
    let z : c.loop-n.n ≡ c.args.k = omega arith in
    c.loop-n.invariant.0 ∙ ap (λ t. walked t c.loop-n.n) c.memory-memory.ensures ∙ ap (walked c.args.self.now.packed.memory.items) z
