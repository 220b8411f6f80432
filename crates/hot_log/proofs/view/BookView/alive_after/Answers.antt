use Rattle.std.proofs.Common.{◌≡◌, ℕ, ◌<◌, inl, inr, ⊎_elim, List, sym, ◌∙◌, subst, Option, Some, None}
use Rattle.std.specs.Option.{option_copied}
use Rattle.redo_core.specs.Data.{RecordData}
use Rattle.redo_core.specs.declared.keys.Key.{Key}
use Rattle.epoch_book.specs.Book.{BookData}
use Rattle.hot_log.specs.Held.{IsHeld, HasKey, IsRecordAt}
use Rattle.hot_log.specs.Alive.{IsAliveKey, IsHeldAlive}
use Rattle.hot_log.specs.Found.{IsLeastRecord}
use Rattle.hot_log.proofs.Indexed.{one_key}
use Rattle.hot_log.proofs.view.BookView.alive_after.Goals as goal

-- the record of the key
of_key : (b : BookData) (held : List RecordData) (number : ℕ) (key : Key) (o : Option RecordData) → IsHeld held → IsAliveKey b held number (Some key) → IsRecordAt held key o → IsLeastRecord (λ r. IsHeldAlive b held r × (number < r.number)) o
of_key b held number key None is found none = absurd (none found.0.0 found.0.1.0 found.0.2)
of_key b held number key (Some x) is found at =
    let t = found.0 in
    let same : t.0 ≡ x = one_key held is.rising t.0 x t.1.0 at.0 (t.2.0 ∙ sym at.1.0) (t.2.1 ∙ sym at.1.1) in (
      subst (λ (r : RecordData). IsHeldAlive b held r × (number < r.number)) same (t.1, t.3),
      λ s h. ⊎_elim
          (λ (k : HasKey key s). inl (one_key held is.rising s x h.0.0 at.0 (k.0 ∙ sym at.1.0) (k.1 ∙ sym at.1.1)))
          (λ (lt : key.number < s.number). inr (subst (λ (n : ℕ). n < s.number) (sym at.1.1) lt))
          (found.1 s h.0 h.1),
    )

pub returns-clause-found : goal.returns-clause-found
returns-clause-found c = of_key c.args.self.now.book.now c.args.self.now.held.now c.args.number c.in_ok-key.key (option_copied c.get.result) c.in_ok-key.ensures.form c.in_ok-key.ensures.found c.get.ensures

pub returns-in_err-key-clause-found : goal.returns-in_err-key-clause-found
returns-in_err-key-clause-found c = rw c.from_residual.ensures (λ r h. c.in_err-key.ensures.found r h.0 h.1)
