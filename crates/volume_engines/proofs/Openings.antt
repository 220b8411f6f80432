-- What follows for two lives of one run.
use Rattle.std.proofs.Common.{◌≡◌, ℕ, inl, sym, ◌∙◌, ap}
use Rattle.volume_theorems.proofs.ByMoment.{one_writer_by, durable_lasts_by}
use Rattle.volume_engines.specs.Openings.{OneLifeOpens, OpeningsLast}
use Rattle.volume_engines.proofs.Sending.{HasOpenedAt}
use Rattle.volume_engines.proofs.Steps.{opened, taken}

pub one_life_opens : OneLifeOpens
one_life_opens run h stop content guards e f life other count more is also m n epoch one two a b first second has had opens reopens =
    let at : HasOpenedAt run e stop epoch one = opened run h stop content guards e life count is m epoch one stop a first has opens (is.upto m first) in
    let then_at : HasOpenedAt run f stop epoch two =
    opened run h stop content guards f other more also n epoch two stop b second had reopens (also.upto n second) in
    let same : e ≡ f = one_writer_by run stop e f epoch is.follows at.0 then_at.0 in
    (same, at.1 ∙ (ap (λ (x : ℕ). ((run.engines x).cuts epoch).lo) same ∙ sym then_at.1))

pub openings_last : OpeningsLast
openings_last run h stop content guards e f life other count more is also m n epoch point node generation birth a cut first second has opens takes later =
    let at : HasOpenedAt run e stop epoch point = opened run h stop content guards e life count is m epoch point stop a first has opens (is.upto m first) in
    durable_lasts_by run stop e epoch point cut is.follows (at.0, inl at.1)
    (taken run h stop content guards f other more also n node generation birth stop cut second takes (also.upto n second)) later
