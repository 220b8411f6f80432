use Rattle.std.proofs.Common.{◌≡◌, ◌⊎◌, List, map, Bor, subst}
use Rattle.std.specs.List.{Contains}
use Rattle.std.proofs.lemmas.Result.{on_ok_weaker, IfErr-weaker}
use Rattle.redo_core.specs.Data.{RecordData}
use Rattle.redo_core.specs.Book.{BookData}
use Rattle.redo_core.specs.Order.{Lists, RecordBefore}
use Rattle.redo_core.proofs.Listing.{lists_as}
use Rattle.segment_theorems.specs.HasMeaning.{IsKeptBy}
use Rattle.segment_core.specs.declared.answers.Refusal.{Refusal}
use Rattle.segment_core.specs.declared.answers.Refusal.TheVariants.{Memory}
use Rattle.segment_core.specs.Exported.{exported_facts}
use Rattle.segment_core.specs.InOrder.{TakesEach, RefusesOne}
use Rattle.segment_join.specs.Knowing.{RefusesAll}
use Rattle.segment_join.proofs.LeavingOut.{takes_left_out, refuses_left_out}
use Rattle.segment_core.proofs.Ordered.{memory_or}
use Rattle.segment_core.specs.Form.{IsSegment}
use Rattle.segment_core.specs.Transaction.{reached}
use Rattle.segment_join.proofs.joining.take_all.Goals as goal

pub kept_among-requires-clause-held : goal.kept_among-requires-clause-held
kept_among-requires-clause-held c = λ r h. ((c.requires.members r).0 h).0

pub returns-clause-takes : goal.returns-clause-takes
returns-clause-takes c =
    let s = reached c.args.union.now in let other = c.args.other.now in let anchor = c.anchor-anchor.result in
    let above = c.anchor-anchor.ensures.own in
    let kept : List RecordData = map (λ r. r.now) c.in_ok-kept.kept.items in
    let missing : List RecordData = map (λ r. r.now) c.args.missing.now in
    let lists : Lists RecordBefore (λ r. IsKeptBy other anchor r × (Contains s.held r → ⊥)) kept =
    lists_as RecordBefore (λ r. Contains missing r × IsKeptBy other anchor r) (λ r. IsKeptBy other anchor r × (Contains s.held r → ⊥)) kept
    (λ r. (λ h. (h.1, ((c.requires.members r).0 h.0).1), λ h. ((c.requires.members r).1 (h.0.0, h.1), h.0)))
    (c.in_ok-kept.ensures anchor above) in
    let own : IsSegment s = subst IsSegment c.segment.ensures c.opens_form.ensures.form in
    let given = c.book_ref.result in
    let is : given ≡ other.book = c.book_ref.ensures.book in
    let t = reached c.import_facts.new.union in
    on_ok_weaker c.import_facts.result
    (λ (h : TakesEach s (exported_facts given (map (λ r. r.now) c.deref.result.now)) t).
    takes_left_out s other anchor kept own.held c.opens_form-2.ensures.form.held above lists t
    (subst (λ (b : BookData). TakesEach s (exported_facts b kept) t) is
    (subst (λ (rs : List (Bor RecordData)). TakesEach s (exported_facts given (map (λ r. r.now) rs)) t) c.deref.ensures.value h)))
    c.import_facts.ensures.takes

pub returns-clause-refused : goal.returns-clause-refused
returns-clause-refused c =
    let s = reached c.args.union.now in let other = c.args.other.now in let anchor = c.anchor-anchor.result in
    let above = c.anchor-anchor.ensures.own in
    let kept : List RecordData = map (λ r. r.now) c.in_ok-kept.kept.items in
    let missing : List RecordData = map (λ r. r.now) c.args.missing.now in
    let lists : Lists RecordBefore (λ r. IsKeptBy other anchor r × (Contains s.held r → ⊥)) kept =
    lists_as RecordBefore (λ r. Contains missing r × IsKeptBy other anchor r) (λ r. IsKeptBy other anchor r × (Contains s.held r → ⊥)) kept
    (λ r. (λ h. (h.1, ((c.requires.members r).0 h.0).1), λ h. ((c.requires.members r).1 (h.0.0, h.1), h.0)))
    (c.in_ok-kept.ensures anchor above) in
    let own : IsSegment s = subst IsSegment c.segment.ensures c.opens_form.ensures.form in
    let given = c.book_ref.result in
    let is : given ≡ other.book = c.book_ref.ensures.book in
    IfErr-weaker c.import_facts.result
    (λ e. (e ≡ Memory) ⊎ RefusesOne s (exported_facts given (map (λ r. r.now) c.deref.result.now)) e) (λ e. (e ≡ Memory) ⊎ RefusesAll s other e)
    (λ (e : Refusal).
    memory_or e (RefusesOne s (exported_facts given (map (λ r. r.now) c.deref.result.now)) e) _
    (λ h.
    refuses_left_out s other anchor kept own.held c.opens_form-2.ensures.form.held above lists e
    (subst (λ (b : BookData). RefusesOne s (exported_facts b kept) e) is
    (subst (λ (rs : List (Bor RecordData)). RefusesOne s (exported_facts given (map (λ r. r.now) rs)) e) c.deref.ensures.value h))))
    c.import_facts.ensures.refused
