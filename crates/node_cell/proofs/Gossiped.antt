-- What the lock keeps, through summaries, mail and absorbs.
use Rattle.std.proofs.Common.{◌≡◌, ℕ, List, ◌++◌, Result, Ok, Err, IfOk, sym, subst, rules}
use Rattle.redo_core.specs.Meaning.{Meaning, IsMeaning}
use Rattle.redo_core.specs.Sound.{IsSound}
use Rattle.redo_core.specs.declared.facts.Fact.{Fact}
use Rattle.log_theorems.specs.WellFormed.{OneMeaning}
use Rattle.log_theorems.proofs.Union.{left, right}
use Rattle.messages.specs.Summaries.{SummaryData}
use Rattle.messages.specs.Deltas.{DeltaData}
use Rattle.segment_theorems.specs.State.{State}
use Rattle.segment_theorems.specs.Means.{Means}
use Rattle.segment_core.specs.Reading.{IsFrontAt}
use Rattle.segment_core.specs.declared.answers.Front.{Front}
use Rattle.front_board.specs.FrontWord.{FrontData}
use Rattle.node_lock.specs.Trail.{Entry}
use Rattle.gossip_core.specs.Summarizing.{IsSummaryOf}
use Rattle.gossip_core.specs.Absorbing.{IsAnsweredInLog, MeansBoth, RefusesAbsorb}
use Rattle.gossip_core.specs.declared.answering.Shown.{Shown}
use Rattle.gossip_core.specs.declared.absorbing.AbsorbRefusal.{AbsorbRefusal}
use Rattle.gossip_core.specs.declared.absorbing.AbsorbRefusal.TheVariants.{Uncovered, Refused}
use Rattle.node_cell.specs.Kept.{MeansTrail}
use Rattle.node_cell.specs.Gossiping.{MailData, IsSummaryOfLog, IsMail, IsFrontWithMail, IsUncoveredThere, RefusesMail, fault_of}
use Rattle.node_cell.proofs.Places.{wider}
use Rattle.node_cell.proofs.Uncovering.{leaves_uncovered}

module _ (roster : ℕ) (log : List Fact) where
  pub summary_of_log : {E : Type 0} (s : State) (trail : List Entry) (result : Result SummaryData E) → IsSound roster log
      → MeansTrail roster log s trail → OneMeaning → IfOk result (λ x. (r : ℕ) (l facts : List Fact) (m : Meaning) → IsSound r l → Means r l facts s → IsMeaning r facts m → IsSummaryOf m x)
      → IfOk result (IsSummaryOfLog roster log)
  summary_of_log s trail (Ok x) sound k law told =
      let one = law roster log k.facts sound k.means.1.part in
      record { facts = k.facts; m = one.0; part = k.means.1.part; meaning = one.1; told = told roster log k.facts one.0 sound k.means one.1 }
  summary_of_log s trail (Err e) sound k law told = tt

  pub answered : (old : State) (trail : List Entry) (mail : MailData) → IsSound roster log → (k : MeansTrail roster log old trail) → (own : IsMail roster log mail)
      → IsAnsweredInLog roster log k.facts own.facts k.means.0 own.p old mail.summary mail.delta
  answered old trail mail sound k own = record { sound = sound; means = k.means.1; part = own.part; position = own.position; fills = own.sent }

  pub keeps_both : (old new : State) (trail : List Entry) (G : List Fact) → (k : MeansTrail roster log old trail) → Means roster log (k.facts ++ G) new
      → MeansTrail roster log new trail
  keeps_both old new trail G k means = search (rules, wider, left)

  pub front_with_mail : (new : State) (mail : MailData) (F : List Fact) (front : Front) (told : FrontData) → (own : IsMail roster log mail)
      → (m : Means roster log (F ++ own.facts) new) → IsFrontAt m.0 front → told ≡ record { epoch = front.epoch; number = front.complete }
      → IsFrontWithMail roster log mail told
  front_with_mail new mail F front told own m is same = search (rules, right)

  pub uncovered_there : (s : State) (trail : List Entry) (summary : SummaryData) (d : DeltaData) (shown : Shown) → IsSound roster log
      → MeansTrail roster log s trail → RefusesAbsorb s summary d (Uncovered shown) → IsUncoveredThere roster log s summary shown
  uncovered_there s trail summary d shown sound k why = search (rules, leaves_uncovered)

  -- after an absorb the state means the facts that it meant and those that the mail is of
  pub both_meant : (old new : State) (trail : List Entry) (mail : MailData) (x : SummaryData) (d : DeltaData) → IsSound roster log
      → (k : MeansTrail roster log old trail) → (own : IsMail roster log mail) → x ≡ mail.summary → d ≡ mail.delta → MeansBoth old x d new
      → Means roster log (k.facts ++ own.facts) new
  both_meant old new trail mail x d sound k own ex ed both =
      both roster log k.facts own.facts k.means.0 own.p
      (subst (λ y. IsAnsweredInLog roster log k.facts own.facts k.means.0 own.p old y d) (sym ex)
      (subst (λ e. IsAnsweredInLog roster log k.facts own.facts k.means.0 own.p old mail.summary e) (sym ed) (answered old trail mail sound k own)))

  pub refuses_mail : (s : State) (trail : List Entry) (mail : MailData) (x : SummaryData) (d : DeltaData) (why : AbsorbRefusal) → IsSound roster log
      → MeansTrail roster log s trail → x ≡ mail.summary → RefusesAbsorb s x d why → RefusesMail roster log s mail (fault_of why)
  refuses_mail s trail mail x d (Uncovered shown) sound k ex why =
      uncovered_there s trail mail.summary d shown sound k (subst (λ y. RefusesAbsorb s y d (Uncovered shown)) ex why)
  refuses_mail s trail mail x d (Refused other) sound k ex why = tt
