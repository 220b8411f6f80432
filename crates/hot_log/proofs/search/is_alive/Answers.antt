use Rattle.std.proofs.lemmas.Bool.{false≢true}
use Rattle.hot_log.proofs.search.is_alive.Goals as goal

pub returns-in_default : goal.returns-in_default
returns-in_default c = record {
  alive = (λ h. absurd (false≢true h), λ a. absurd (c.in_default.not-Alive (c.stands.ensures.alive.1 a)));
  book = c.complete_epoch.ensures.book;
}
