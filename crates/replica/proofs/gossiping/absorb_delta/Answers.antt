use Rattle.std.proofs.Common.{◌≡◌, ap, Result, Ok, Err, OnErr}
use Rattle.gossip_core.specs.declared.absorbing.AbsorbRefusal.{AbsorbRefusal}
use Rattle.read_cache.specs.Cached.{Cached}
use Rattle.replica.proofs.gossiping.absorb_delta.Goals as goal

kept_segment : (answer : Result (Unit {0}) AbsorbRefusal) (old new : Cached) → OnErr answer (new ≡ old) → OnErr answer (new.segment ≡ old.segment)
kept_segment (Ok done) old new same = tt
kept_segment (Err why) old new same = ap (λ c. c.segment) same

pub returns : goal.returns
returns c =
    let e = c.absorb.ensures in
    record {
      absorbs = record {
        answer = c.absorb.result;
        absorbs = record {
          means = e.means;
          sound = e.sound;
          absorbs = e.absorbs;
          answers = e.answers;
          refused = e.refused;
          roster = e.roster;
          unchanged = kept_segment c.absorb.result _ _ e.unchanged;
        };
        drops = e.drops;
        unchanged = e.unchanged;
        pages = e.pages;
        is = c.absorbed_reply.ensures;
      };
    }
