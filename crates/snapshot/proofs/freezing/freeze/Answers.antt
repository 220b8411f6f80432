use Rattle.std.proofs.lemmas.Grind.{common_steps}
use Rattle.std.proofs.Common.{◌≡◌, length, refl, sym, ◌∙◌, subst, arith}
use Rattle.snapshot.specs.Snapshots.{SnapshotData, snapshot_of, Freezes, IsPieceCount}
use Rattle.snapshot.specs.declared.freezing.FreezeFault.TheVariants.{Memory, TooMany}
use Rattle.snapshot.proofs.Frozen.{snapshot_form, count_as}
use Rattle.snapshot.proofs.freezing.freeze.Goals as goal

-- lack of memory is not too many pieces
not_many : Memory ≡ TooMany → ⊥
not_many e = cc

pub returns-in_default-clause-many : goal.returns-in_default-clause-many
returns-in_default-clause-many c = λ e. absurd (not_many e)

pub returns-in_default-pages_at_anchor-clause-many : goal.returns-in_default-pages_at_anchor-clause-many
returns-in_default-pages_at_anchor-clause-many c = λ e. absurd (not_many e)

pub returns-in_default-kept_records-clause-many : goal.returns-in_default-kept_records-clause-many
returns-in_default-kept_records-clause-many c = λ e. absurd (not_many e)

pub new-requires : goal.new-requires
new-requires c =
    let s = c.args.segment.now in
    let pages = c.in-Ok-pages_at_anchor.pages.items in
    let records = c.in-Ok-kept_records.records.items in
    let d : SnapshotData = snapshot_of c.args.name c.in-Some.total c.in-Ok.book c.anchor.result pages records in
    snapshot_form s d c.book_of.ensures.form.book (record {
      book = c.in-Ok.ensures.book;
      anchor = c.anchor.ensures.own;
      pages = c.in-Ok-pages_at_anchor.ensures c.anchor.result c.anchor.ensures.own;
      records = c.in-Ok-kept_records.ensures c.anchor.result c.anchor.ensures.own;
      total = subst (λ n. IsPieceCount n (length records) c.in-Some.total) (c.len.ensures ∙ c.in-Ok-pages_at_anchor.pages.ok.0)
          (subst (λ n. IsPieceCount c.len.result n c.in-Some.total) (c.len-2.ensures ∙ c.in-Ok-kept_records.records.ok.0) c.in-Some.ensures.some);
    })

pub returns-in-Some-clause-frozen : goal.returns-in-Some-clause-frozen
returns-in-Some-clause-frozen c =
    let pages = c.in-Ok-pages_at_anchor.pages.items in
    let records = c.in-Ok-kept_records.records.items in
    subst (Freezes c.args.segment.now) (sym c.new.ensures) (record {
      book = c.in-Ok.ensures.book;
      anchor = c.anchor.ensures.own;
      pages = c.in-Ok-pages_at_anchor.ensures c.anchor.result c.anchor.ensures.own;
      records = c.in-Ok-kept_records.ensures c.anchor.result c.anchor.ensures.own;
      total = subst (λ n. IsPieceCount n (length records) c.in-Some.total) (c.len.ensures ∙ c.in-Ok-pages_at_anchor.pages.ok.0)
          (subst (λ n. IsPieceCount c.len.result n c.in-Some.total) (c.len-2.ensures ∙ c.in-Ok-kept_records.records.ok.0) c.in-Some.ensures.some);
    })

pub returns-in-None-clause-many : goal.returns-in-None-clause-many
returns-in-None-clause-many c = λ _ d frozen.
    let pages = c.in-Ok-pages_at_anchor.pages.items in
    let records = c.in-Ok-kept_records.records.items in
    let count : IsPieceCount (length pages) (length records) d.total =
    count_as c.args.segment.now d d.anchor pages records frozen frozen.anchor (c.in-Ok-pages_at_anchor.ensures d.anchor frozen.anchor)
    (c.in-Ok-kept_records.ensures d.anchor frozen.anchor) in
    c.in-None.ensures.none refl d.total (subst (λ n. IsPieceCount n c.len-2.result d.total) (sym (c.len.ensures ∙ c.in-Ok-pages_at_anchor.pages.ok.0))
    (subst (λ n. IsPieceCount (length pages) n d.total) (sym (c.len-2.ensures ∙ c.in-Ok-kept_records.records.ok.0)) count))

pub returns-in-Some-clause-few : goal.returns-in-Some-clause-few
returns-in-Some-clause-few c = grind (arith, common_steps)

pub returns-in-Some-clause-name : goal.returns-in-Some-clause-name
returns-in-Some-clause-name c = grind (arith, common_steps)
