use Rattle.std.proofs.Common.{◌≡◌, ℕ, true, false, ⊎_elim, List, Option, Some, None, Bor, refl, sym, ap, ◌∙◌, subst, arith, rules}
use Rattle.std.specs.Option.{option_copied, is_some}
use Rattle.std.specs.Ordering.{nat_cmp}
use Rattle.std.specs.BTreeMap.{is_at}
use Rattle.std.specs.Map.{lookup}
use Rattle.std.proofs.lemmas.Bool.{cases_eq, false≢true}
use Rattle.std.proofs.lemmas.Grind.{common_steps}
use Rattle.messages.specs.Pieces.{PieceData, IsPiece}
use Rattle.snapshot.specs.Stagings.{StagingData, staging_of, piece_at, IsStaging, IsStranger}
use Rattle.snapshot.proofs.staging.Staging.add.Goals as goal

is_elsewhere : (a b : ℕ) → (a ≡ b → ⊥) → is_at (nat_cmp a) b ≡ false
is_elsewhere a b ne = grind (arith, common_steps)

-- what is staged of the piece that comes
staged : (name total index : ℕ) (pieces : List (ℕ × PieceData)) (own p : PieceData) → Some own ≡ Some p → own.index ≡ index → own.name ≡ name
    → own.total ≡ total → IsPiece own → (p.index ≡ index) × (IsStranger (staging_of name total pieces) p → ⊥) × IsPiece p
staged name total index pieces own p is at named counted shape = search rules

pub invariant_of-self : goal.invariant_of-self
invariant_of-self c = λ index p is.
    let k = c.index-index.result in
    let u = c.in-Ok.ensures.updates in
    let entries : List (ℕ × PieceData) = c.insert.new.self.entries in
    ⊎_elim
    (λ (e : k ≡ index). staged c.self.inside.name c.self.inside.total index entries c.args.piece p
    (sym u.1 ∙ ap (λ j. lookup (is_at (nat_cmp j)) entries) e ∙ is) (sym c.index-index.ensures.index ∙ e)
    (cc) (cc) c.index-index.ensures.shape)
    (λ ne. c.self.invariant index p (sym (u.2 index (is_elsewhere k index ne)) ∙ is))
    (cases_eq k index)

pub invariant_of-self-2 : goal.invariant_of-self-2
invariant_of-self-2 c = λ index p is.
    c.self.invariant index p (ap (λ (es : List (ℕ × PieceData)). lookup (is_at (nat_cmp index)) es) (sym c.in-Err.ensures.err) ∙ is)

pub returns-then-name-self-clause-form : goal.returns-then-name-self-clause-form
returns-then-name-self-clause-form c = subst IsStaging c.self.view_is c.self.invariant

pub returns-then-is_some-clause-form : goal.returns-then-is_some-clause-form
returns-then-is_some-clause-form c = subst IsStaging c.self.view_is c.self.invariant

-- what is not found has not come
not_yet : (found : Option (Bor PieceData)) → is_some found ≡ false → option_copied found ≡ None
not_yet None is = refl
not_yet (Some x) is = absurd (false≢true (sym is))

pub returns-in-Ok-clause-adds : goal.returns-in-Ok-clause-adds
returns-in-Ok-clause-adds c =
    let k = c.index-index.result in let at : k ≡ c.args.piece.index = c.index-index.ensures.index in
    let old = c.args.self.now in let u = c.in-Ok.ensures.updates in
    record {
      name = ap (λ (s : StagingData). s.name) c.self.view_is;
      total = ap (λ (s : StagingData). s.total) c.self.view_is;
      absent = ap (λ i. piece_at old i) (sym at) ∙ ap (λ (s : StagingData). piece_at s k) (sym c.self.view_is) ∙ sym c.get.ensures.value
          ∙ not_yet c.get.result (sym c.is_some.ensures ∙ c.if-is_some.false);
      there = subst (λ i. lookup (is_at (nat_cmp i)) c.insert.new.self.entries ≡ Some c.args.piece) at u.1;
      others = λ i ne. u.2 i (is_elsewhere k i (λ e. ne (sym e ∙ at))) ∙ ap (λ (s : StagingData). piece_at s i) c.self.view_is;
    }

-- what is found has come
already : (found : Option (Bor PieceData)) → is_some found ≡ true → (p : PieceData) × (option_copied found ≡ Some p)
already (Some x) is = (x.now, refl)
already None is = absurd (grind (arith, is))

pub returns-then-is_some-clause-refused : goal.returns-then-is_some-clause-refused
returns-then-is_some-clause-refused c = grind (arith, common_steps, already)

pub returns-in-Ok-clause-form : goal.returns-in-Ok-clause-form
returns-in-Ok-clause-form c = invariant_of-self c

pub returns-clause-form : goal.returns-clause-form
returns-clause-form c = invariant_of-self-2 c

pub returns-clause-refused : goal.returns-clause-refused
returns-clause-refused c = grind (arith, common_steps)

pub returns-clause-back : goal.returns-clause-back
returns-clause-back c = grind (arith, common_steps)

pub returns-then-name-self-clause-refused : goal.returns-then-name-self-clause-refused
returns-then-name-self-clause-refused c = grind (arith, common_steps)

pub returns-clause-unchanged : goal.returns-clause-unchanged
returns-clause-unchanged c = grind (arith, common_steps)
