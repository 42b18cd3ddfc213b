-- `seeks::Seek::step` meets its contract: the link is forward or back.
use Rattle.seeks.proofs.Walk.{stepped-ahead, stepped-back}
use Rattle.seeks.proofs.Seek.step.Goals.{then-self, else-self}
use Rattle.seeks.proofs.Seek.step.Goals as goal

pub returns : goal.returns
returns c =
    let a = c.args in
    elim c.if-self.branch [
      | then-self w ↦ stepped-ahead a.c a.self w.if-self.true w.result-is
      | else-self w ↦ stepped-back a.c a.self w.if-self.false w.result-is
    ]
