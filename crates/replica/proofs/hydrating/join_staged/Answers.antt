use Rattle.std.proofs.Common.{refl, Ok, Err}
use Rattle.replica.proofs.hydrating.join_staged.Goals as goal

pub returns-in-Ok : goal.returns-in-Ok
returns-in-Ok c =
    let e = c.in-Ok.ensures in
    record {
      answer = Ok tt;
      means = e.means;
      sound = tt;
      joins = e.joins;
      takes = e.takes;
      refused = tt;
      roster = tt;
      gone = (e.drops, refl);
      unchanged = tt;
      pages = e.pages;
      is = refl;
    }

pub returns-in-Err : goal.returns-in-Err
returns-in-Err c =
    let e = c.in-Err.ensures in
    record {
      answer = Err c.in-Err.why;
      means = tt;
      sound = e.sound;
      joins = tt;
      takes = tt;
      refused = e.refused;
      roster = e.roster;
      gone = tt;
      unchanged = (e.unchanged, refl);
      pages = e.pages;
      is = c.refusal_reply.ensures;
    }
