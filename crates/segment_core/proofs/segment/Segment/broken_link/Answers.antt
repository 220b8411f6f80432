use Rattle.std.proofs.Common.{◌≡◌, true, false, ◌<◌, ◌≤◌, ◌⊎◌, ⊎_elim, Some, None, subst, arith, sym, ◌∙◌}
use Rattle.std.proofs.lemmas.Bool.{false≢true}
use Rattle.hot_log.specs.Held.{IsHeld}
use Rattle.hot_log.specs.Found.{IsOnlyRecord}
use Rattle.segment_theorems.specs.State.{State, version_of}
use Rattle.segment_core.proofs.BlockChain.{IsLinkedAt, IsBelow, ReportsLink, walk_begins, walk_goes, walk_breaks, whole_from, breaks_below, block_lower, answers_here, answers_none, sound_link}
use Rattle.segment_core.proofs.segment.Segment.broken_link.Goals as goal

pub loop-redo-init : goal.loop-redo-init
loop-redo-init c =
    let s = c.args.self.now in
    record {
      version = subst (λ (x : State). c.version-version.result ≡ version_of x.store c.args.page) c.self.view_is c.version-version.ensures;
      linked = c.in_ok-redo.ensures.0;
      same = λ n. walk_begins s c.args.page c.args.point c.in_ok-redo.redo.now c.in_ok-redo.ensures n;
    }

pub loop-redo-smaller : goal.loop-redo-smaller
loop-redo-smaller c =
    let r = c.loop-redo.redo.now in
    let held = subst (λ (s : State). IsHeld s.held) c.self.view_is c.self.invariant.1 in
    let lower : r.block_back < r.number = block_lower r (held.shaped r c.loop-redo.invariant.linked.0) in
    let back : c.block_back.result ≡ r.block_back = c.block_back.ensures.value in
    let at : c.in-Some.below.now.number ≡ c.block_back.result = c.in-Some.ensures.0.1 in
    omega (arith, lower, back, at)

pub loop-redo-preserved : goal.loop-redo-preserved
loop-redo-preserved c =
    let s = c.args.self.now in let page = c.args.page in let point = c.args.point in
    let r = c.loop-redo.redo.now in let below = c.in-Some.below.now in
    let held = subst (λ (x : State). IsHeld x.held) c.self.view_is c.self.invariant.1 in
    let step : IsBelow s page point r below =
    let leads = c.leads_on.ensures.0 c.loop-redo-test.true in
    let back : c.block_back.result ≡ r.block_back = c.block_back.ensures.value in
    let lower : r.block_back < r.number = block_lower r (held.shaped r c.loop-redo.invariant.linked.0) in
    let version : c.version-version.result ≡ version_of s.store page = c.loop-redo.invariant.version in
    let bound : r.number ≤ point = c.loop-redo.invariant.linked.4 in
    let found = subst (λ m. IsOnlyRecord (IsLinkedAt s page m) (Some below)) back c.in-Some.ensures in
    walk_goes s page point r below leads.0 (omega (arith, version, leads.1)) (omega (arith, lower, bound)) found
    in record {
      version = c.loop-redo.invariant.version;
      linked = step.linked;
      same = λ n.
          let b = breaks_below s page point r below n step in
          let before = c.loop-redo.invariant.same n in
          (λ h. b.0 (before.0 h), λ h. before.1 (b.1 h));
    }

breaks : (c : goal.After-number) → ReportsLink c.args.self.now c.args.page c.args.point (Some c.number.result)
breaks c = λ n.
    let s = c.args.self.now in let page = c.args.page in let point = c.args.point in
    let r = c.loop-redo.redo.now in
    let leads = c.leads_on.ensures.0 c.loop-redo-test.true in
    let version : c.version-version.result ≡ version_of s.store page = c.loop-redo.invariant.version in
    let none = subst (λ m. IsOnlyRecord (IsLinkedAt s page m) None) c.block_back.ensures.value c.in-None.ensures in
    answers_here s page point r c.number.result c.number.ensures.value
    (walk_breaks s page point r leads.0 (omega (arith, version, leads.1)) none) c.loop-redo.invariant.same n

pub returns-in-None-clause-breaks : goal.returns-in-None-clause-breaks
returns-in-None-clause-breaks c = breaks c

pub returns-in-None-clause-sound : goal.returns-in-None-clause-sound
returns-in-None-clause-sound c = sound_link c.args.self.now c.args.page c.args.point (Some c.number.result) (breaks c)

pub returns-clause-breaks : goal.returns-clause-breaks
returns-clause-breaks c = λ n.
    let s = c.args.self.now in let page = c.args.page in
    let r = c.loop-redo.redo.now in
    let version : c.version-version.result ≡ version_of s.store page = c.loop-redo.invariant.version in
    let ends : r.init ≡ false → r.block_back ≤ version_of s.store page = λ follows.
    ⊎_elim (λ (low : r.block_back ≤ version_of s.store page). low)
    (λ (high : version_of s.store page < r.block_back).
    let t : c.leads_on.result ≡ true = c.leads_on.ensures.1 (follows, omega (arith, version, high)) in
    let f : c.leads_on.result ≡ false = c.loop-redo-test.false in
    absurd (false≢true (sym f ∙ t)))
    (let t : (r.block_back ≤ version_of s.store page) ⊎ (version_of s.store page < r.block_back) = grind arith in t) in
    answers_none s page c.args.point (λ m h. whole_from s page c.args.point r m ends ((c.loop-redo.invariant.same m).0 h)) n
