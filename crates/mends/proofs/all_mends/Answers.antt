-- `mends::all_mends`: the loop's invariant says where the search stands at list k, and what is chosen for it, if that is known.
use Rattle.std.proofs.Common.{◌≡◌, ℕ, ◌<◌, List, ◌++◌, arith, ap, sym, refl, ◌∙◌}
use Rattle.std.proofs.lemmas.Result.{err_from_is_err_and}
use Rattle.std.specs.Prelude.{Ok}
use Rattle.stores.specs.Stores.{Write}
use Rattle.layout.specs.declared.Layout.{Layout}
use Rattle.layout.specs.Words.{InRange}
use Rattle.lists.specs.Decide.{View, view_of, count_in}
use Rattle.fitting.specs.declared.Chosen.{Chosen}
use Rattle.fitting.specs.Fitting.{fit_in, mend_of, count_mend, FaultFits}
use Rattle.fitting.proofs.Inside.{fit-fits}
use Rattle.mending.specs.Mending.{writes_in}
use Rattle.mending.proofs.AllLists.{searched_none, searched-more, searched-refused, searched_all}
use Rattle.mends.proofs.all_mends.Goals as goal

pub loop-k-init : goal.loop-k-init
loop-k-init g c =
    let s = c.args.s.now in
    let w = g.E.Form.words_in s.lent.now in record {
      searched = rw c.none-writes.ensures (searched_none s.layout s.laid.in_range (view_of s.layout w) (count_in s.layout w) _ refl);
      few = omega arith;
      known = λ h. tt;
    }

pub returns-in_err-chosen : goal.returns-in_err-chosen
returns-in_err-chosen g c =
    let s = c.args.s.now in
    let w = g.E.Form.words_in s.lent.now in
    let p = err_from_is_err_and c.from_residual.result c.from_residual.ensures.1 in
    rw (p.1, p.2)
    (searched-refused s.layout s.laid.in_range (view_of s.layout w) (count_in s.layout w) c.loop-k.invariant.searched c.loop-k-test.true
    (sym c.fit_next-fit.ensures.first ∙ c.in_err-chosen.was))

-- the fault of a list is of the store
fits : (l : Layout) (r : InRange l) (v : View) (k n : ℕ) {c : Chosen} → k < l.lists → fit_in l v k n ≡ Ok c → FaultFits l c.walk.faults
fits l r v k n h e = rw e at (fit-fits l r v k n h)

pub carried-whole-requires : goal.carried-whole-requires
carried-whole-requires g c =
    let s = c.args.s.now in
    let w = g.E.Form.words_in s.lent.now in
    fits s.layout s.laid.in_range (view_of s.layout w) c.loop-k.k (count_in s.layout w c.loop-k.k) c.loop-k-test.true
    (sym c.fit_next-fit.ensures.first ∙ c.in_ok-chosen.was)

pub mend_of-requires : goal.mend_of-requires
mend_of-requires g c =
    let s = c.args.s.now in
    let w = g.E.Form.words_in s.lent.now in (
      s.laid.in_range,
      fits s.layout s.laid.in_range (view_of s.layout w) c.loop-k.k (count_in s.layout w c.loop-k.k) c.loop-k-test.true
          (sym c.fit_next-fit.ensures.first ∙ c.in_ok-chosen.was),
    )

pub loop-k-preserved : goal.loop-k-preserved
loop-k-preserved g c =
    let s = c.args.s.now in
    let l = s.layout in
    let w = g.E.Form.words_in s.lent.now in
    let x = c.in_ok-chosen.chosen.walk in
    let kept : writes_in c.keep-in-loop-k.new.writes
    ≡ (writes_in c.loop-k.writes ++ mend_of l x.faults) ++ count_mend l c.loop-k.k (count_in l w c.loop-k.k) x.members =
    c.keep-in-loop-k.ensures
    ∙ (λ i. (c.keep.ensures ∙ ap (λ (ps : List Write). writes_in c.loop-k.writes ++ ps) c.mend_of.ensures) i ++ c.count_mend.ensures i)
    ∙ ap (λ n. (writes_in c.loop-k.writes ++ mend_of l x.faults) ++ count_mend l c.loop-k.k n x.members) c.count.ensures in record {
      searched = rw (kept, c.from-members.ensures, c.from.ensures)
          (searched-more l s.laid.in_range (view_of l w) (count_in l w) c.loop-k.invariant.searched c.loop-k-test.true
          (sym c.fit_next-fit.ensures.first ∙ c.in_ok-chosen.was) c.carried-whole.ensures);
      few = omega (arith, c.loop-k.invariant.few);
      known = c.fit_next-fit.ensures.second;
    }

pub returns : goal.returns
returns g c =
    let s = c.args.s.now in
    let w = g.E.Form.words_in s.lent.now in
    searched_all s.layout s.laid.in_range (view_of s.layout w) (count_in s.layout w) _ c.loop-k.k c.loop-k.invariant.searched (omega arith)
