use Rattle.std.proofs.Common.{drop, ap, ◌∙◌, arith}
use Rattle.capture.proofs.Windows.{window_pass}
use Rattle.capture.proofs.frames.Frame.pass.Goals as goal

pub returns-clause-held : goal.returns-clause-held
returns-clause-held c =
    let i = c.self.inside in
    window_pass i.memory i.from i.to c.min.result c.args.count (omega arith) c.min.ensures ∙ ap (drop c.args.count) c.self.view_is
