-- The laws of merging, from those of meanings.
use Rattle.std.proofs.Common.{◌↔◌, ℕ, ◌++◌, List, rules}
use Rattle.redo_core.specs.Sound.{IsSound}
use Rattle.redo_core.specs.Meaning.{Meaning, IsMeaning}
use Rattle.redo_core.specs.declared.facts.Fact.{Fact}
use Rattle.log_theorems.specs.OrderOfMeanings.{Congruence, OrderByParts, LeastUpperBound, Associativity, Commutativity, Idempotence}
use Rattle.log_theorems.specs.Overlap.{Overlap}
use Rattle.segment_theorems.specs.State.{State}
use Rattle.segment_theorems.specs.Means.{Means}
use Rattle.segment_theorems.specs.Laws.{SameMeaning}
use Rattle.segment_join.specs.Laws.{MeanTheSame, JoinsAreLeast, JoinsCommute, JoinsAssociate, JoinWithItself, JoinsAgree, WriteFourReadThree}

-- states that mean sets of facts of one meaning mean the same
by_facts : SameMeaning → (roster : ℕ) (log F G : List Fact) (s t : State) → IsSound roster log → Means roster log F s → Means roster log G t
    → ((m : Meaning) → IsMeaning roster F m ↔ IsMeaning roster G m) → MeanTheSame s t
by_facts law roster log F G s t sound mf mg same m =
    let one = law roster log F s m sound mf in
    let other = law roster log G t m sound mg in
    (λ h. other.1 ((same m).0 (one.0 h)), λ h. one.1 ((same m).1 (other.0 h)))

pub joins_are_least : SameMeaning → OrderByParts → LeastUpperBound → JoinsAreLeast
joins_are_least law order least roster log s t w joined x y z m of hx hy hz union hm =
    let F = of.first.0 in let G = of.second.0 in let H = of.third.0 in
    let mf = of.first.1 in let mg = of.second.1 in let mh = of.third.1 in
    let both : Means roster log (F ++ G) joined = union roster log F G of.sound mf mg in
    let px : IsMeaning roster F x = (law roster log F s x of.sound mf).0 hx in
    let py : IsMeaning roster G y = (law roster log G t y of.sound mg).0 hy in
    let pz : IsMeaning roster H z = (law roster log H w z of.sound mh).0 hz in
    let pm : IsMeaning roster (F ++ G) m = (law roster log (F ++ G) joined m of.sound both).0 hm in
    let bound = least roster log F G x y m of.sound mf.1.part mg.1.part px py pm in (
      (order roster log F (F ++ G) x m of.sound mf.1.part both.1.part px pm).1 bound.0,
      (order roster log G (F ++ G) y m of.sound mg.1.part both.1.part py pm).1 bound.1,
      λ above_x above_y.
          (order roster log (F ++ G) H m z of.sound both.1.part mh.1.part pm pz).1
          (bound.2 z ((order roster log F H x z of.sound mf.1.part mh.1.part px pz).0 above_x)
          ((order roster log G H y z of.sound mg.1.part mh.1.part py pz).0 above_y)),
    )

pub joins_commute : SameMeaning → Commutativity → JoinsCommute
joins_commute law commutes roster log s t one other of first second =
    let F = of.first.0 in let G = of.second.0 in
    by_facts law roster log (F ++ G) (G ++ F) one other of.sound
    (first roster log F G of.sound of.first.1 of.second.1) (second roster log G F of.sound of.second.1 of.first.1) (λ m. commutes roster F G m)

pub joins_associate : SameMeaning → Associativity → JoinsAssociate
joins_associate law associates roster log s t w front back one other of st front_w tw s_back =
    let F = of.first.0 in let G = of.second.0 in let H = of.third.0 in
    by_facts law roster log ((F ++ G) ++ H) (F ++ (G ++ H)) one other of.sound
    (front_w roster log (F ++ G) H of.sound (st roster log F G of.sound of.first.1 of.second.1) of.third.1)
    (s_back roster log F (G ++ H) of.sound of.first.1 (tw roster log G H of.sound of.second.1 of.third.1)) (λ m. associates roster F G H m)

pub join_with_itself : SameMeaning → Idempotence → JoinWithItself
join_with_itself law repeats roster log s joined of union =
    let F = of.first.0 in
    by_facts law roster log (F ++ F) F joined s of.sound (union roster log F F of.sound of.first.1 of.first.1) of.first.1 (λ m. repeats roster F m)

pub joins_agree : SameMeaning → Congruence → JoinsAgree
joins_agree law congruent roster log s t w one other m of hs ht first second =
    let F = of.first.0 in let G = of.second.0 in let H = of.third.0 in
    let mf = of.first.1 in let mg = of.second.1 in let mh = of.third.1 in
    let pf : IsMeaning roster F m = (law roster log F s m of.sound mf).0 hs in
    let pg : IsMeaning roster G m = (law roster log G t m of.sound mg).0 ht in
    by_facts law roster log (F ++ H) (G ++ H) one other of.sound (first roster log F H of.sound mf mh) (second roster log G H of.sound mg mh)
    (λ u. (
      congruent roster log F G H m u of.sound mf.1.part mg.1.part mh.1.part pf pg,
      congruent roster log G F H m u of.sound mg.1.part mf.1.part mh.1.part pg pf,
    ))

pub write_four_read_three : Overlap → WriteFourReadThree
write_four_read_three overlap roster log parts reached chosen k n sound all at same six four three = search rules
