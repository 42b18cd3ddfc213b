-- `recover_each` recovers once with each allowance: after i turns the words are those after the first i recoveries.
use Rattle.std.proofs.Common.{◌≡◌, ℕ, List, take, arith, ap, subst, ◌∙◌}
use Rattle.calls.specs.Answers.{answer_of}
use Rattle.recovery.specs.Plan.{recover_plan}
use Rattle.courses.specs.Course.{words_through}
use Rattle.courses.proofs.Each.{each_none, each_more, each_all, each_last, each-demanded}
use Rattle.courses.proofs.recover_each.Goals as goal

pub loop-i-init : goal.loop-i-init
loop-i-init c = each_none c.args.allowances.now c.args.words.now

pub loop-i-preserved : goal.loop-i-preserved
loop-i-preserved c =
    let l = c.loop-i in
    let ms = c.args.allowances.now in
    let y = c.args.words.now in
    subst (λ (n : ℕ). c.recover.new.words ≡ words_through (take n ms) y) (omega arith)
    (c.recover.ensures.words ∙ each_more ms l.i y l.words (omega arith) l.invariant)

pub returns : goal.returns
returns c =
    let r = c.recover-2 in
    let l = c.loop-i in
    let ms = c.args.allowances.now in
    let y = c.args.words.now in
    let q : l.words ≡ words_through ms y = each_all ms l.i y l.words (omega arith) l.invariant in
    let answer = r.ensures.answer ∙ ap (λ (v : List ℕ). answer_of (recover_plan v) c.args.last) q in
    let ends = r.ensures.words ∙ each_last ms c.args.last y l.words q in record {
      answer = answer;
      words = ends;
      course = each-demanded ms c.args.last y r.new.words r.result ends answer;
    }
