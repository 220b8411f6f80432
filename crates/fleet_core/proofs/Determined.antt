-- A step that was carried out has one reply, and a script has one list of replies.
use Rattle.std.proofs.Common.{◌≡◌, ℕ, ◌+◌, ◌-◌, ◌≤◌, ◌⊎◌, ⊎_elim, ◌↔◌, Bool, IsTrue, List, [], rules}
use Rattle.std.proofs.Common.{◌∷◌, ◌++◌, refl, sym, ap, ◌∙◌, subst, arith, Option, Some, None}
use Rattle.std.specs.Prelude.{MatchOption, length}
use Rattle.std.specs.List.{Contains, AllByRecursion}
use Rattle.std.proofs.lemmas.List.Elements.{Contains-append_cases}
use Rattle.redo_core.specs.Sets.{IsPart}
use Rattle.redo_core.specs.Keys.{KeyBefore}
use Rattle.redo_core.specs.Position.{Position, IsPosition}
use Rattle.redo_core.specs.Sound.{IsSound}
use Rattle.redo_core.specs.Answer.{ReadAnswer, IsReadAnswer}
use Rattle.redo_core.specs.Answer.ReadAnswer.{Image as OfImage, Below as OfBelow, Above as OfAbove}
use Rattle.redo_core.specs.declared.facts.Fact.{Fact}
use Rattle.log_theorems.specs.OrderOfMeanings.{Covers}
use Rattle.log_theorems.proofs.Log.{log_of_sound}
use Rattle.log_theorems.proofs.Fronts.{front_unique, page_unique}
use Rattle.log_theorems.proofs.Meanings.{meaning_exists}
use Rattle.redo_core.specs.Meaning.{Meaning}
use Rattle.redo_core.proofs.Pairs.{pair_apart}
use Rattle.segment_theorems.specs.Gossip.{AnswersFor}
use Rattle.gossip_core.specs.declared.answering.Shown.{Shown}
use Rattle.gossip_core.specs.declared.answering.Shown.TheVariants.{Anchor as OfAnchor, Key as OfKey}
use Rattle.redo_core.proofs.Members.{none_in, which}
use Rattle.redo_core.proofs.Listing.{all_push}
use Rattle.log_theorems.proofs.Union.{both}
use Rattle.script_steps.specs.Nodes.{node_of, other_of, nodes_of, first_missing}
use Rattle.script_steps.specs.declared.steps.Step.{Step}
use Rattle.script_steps.specs.declared.steps.Step.TheVariants as step
use Rattle.fleet_core.specs.declared.replies.Reply.{Reply}
use Rattle.fleet_core.specs.declared.replies.Reply.TheVariants.{Changed, Unchanged, Folded, Joined, Answer, Wiped, NoNode, Memory}
use Rattle.fleet_core.specs.declared.replies.Reply.TheVariants.{Message as MessageIs, Absorbed, Uncovered, NoMessage}
use Rattle.fleet_core.specs.Machine.{Message, Machine, node_facts, numbered, asked_by, asked_in, answered_by, answered_in, brought_by, facts_after}
use Rattle.fleet_core.specs.Machine.{answers_to, messages_after, after}
use Rattle.fleet_core.specs.Machine.Message.{Asked, Answered}
use Rattle.fleet_core.specs.Replies.{RepliesTake, RepliesFront, RepliesRead, RepliesSame, RepliesCovers, NodeReplies, Replies, HasCome}
use Rattle.fleet_core.specs.Replies.{summary_of_meaning, LeavesUncovered, RepliesAbsorb, RepliesNumber}
use Rattle.fleet_core.specs.Runs.{TakesFrom, AreReplies}
use Rattle.fleet_core.specs.Laws.{IsMessageOf, IsMachineOf, OneReply, OneRun}
use Rattle.fleet_core.proofs.Places.{all_at, all_set}
use Rattle.fleet_core.proofs.Numbering.{number_has}

-- ---- a node has one reply

lacking : (r : Reply) → r ≡ Memory → HasCome r → ⊥
lacking r e come = subst HasCome e come

one_answer : (facts : List Fact) (p : Position) (g q : ℕ) (a b : ReadAnswer) → IsReadAnswer facts p g q a → IsReadAnswer facts p g q b → a ≡ b
one_answer facts p g q (OfBelow m) (OfBelow n) h k = ap OfBelow (h.0 ∙ sym k.0)
one_answer facts p g q (OfBelow m) (OfAbove n) h k = absurd (omega (arith, h.1, k.1))
one_answer facts p g q (OfBelow m) (OfImage image) h k = absurd (omega (arith, h.1, k.0.0))
one_answer facts p g q (OfAbove m) (OfBelow n) h k = absurd (omega (arith, h.1, k.1))
one_answer facts p g q (OfAbove m) (OfAbove n) h k = ap OfAbove (h.0 ∙ sym k.0)
one_answer facts p g q (OfAbove m) (OfImage image) h k = absurd (omega (arith, h.2, k.0.1))
one_answer facts p g q (OfImage image) (OfBelow n) h k = absurd (omega (arith, k.1, h.0.0))
one_answer facts p g q (OfImage image) (OfAbove n) h k = absurd (omega (arith, k.2, h.0.1))
one_answer facts p g q (OfImage i) (OfImage j) h k = ap OfImage (page_unique facts facts (λ x. (λ y. y, λ y. y)) p.epoch g q i j h.1 k.1)

one_place : {roster : ℕ} (facts : List Fact) (p q : Position) → IsPosition roster facts p → IsPosition roster facts q → p ≡ q
one_place facts p q h k = front_unique facts facts (λ x. (λ y. y, λ y. y)) p q h k

one_take : (roster : ℕ) (log facts : List Fact) (fact : Fact) (r s : Reply) → IsSound roster log → IsPart facts log → RepliesTake roster facts fact r
    → RepliesTake roster facts fact s → r ≡ s
one_take roster log facts fact r s sound part h k =
    let meaning = meaning_exists log facts (log_of_sound roster log sound) part in
    ⊎_elim
    (λ x. ⊎_elim (λ y. x.0 ∙ sym y.0) (λ y. absurd (x.1 meaning.0 meaning.1 (y.1 meaning.0 meaning.1))) k)
    (λ x. ⊎_elim (λ y. absurd (y.1 meaning.0 meaning.1 (x.1 meaning.0 meaning.1))) (λ y. x.0 ∙ sym y.0) k)
    h

one_told_front : (roster : ℕ) (facts : List Fact) (r s : Reply) → RepliesFront roster facts r → RepliesFront roster facts s → r ≡ s
one_told_front roster facts r s h k = search (rules, one_place)

one_told_read : (roster : ℕ) (facts : List Fact) (g q : ℕ) (r s : Reply) → RepliesRead roster facts g q r → RepliesRead roster facts g q s → r ≡ s
one_told_read roster facts g q r s h k = search (rules, one_place, one_answer)

one_bool : (a b : Bool) (P : Type 0) → IsTrue a ↔ P → IsTrue b ↔ P → a ≡ b
one_bool a b P h k = search rules

one_same : (roster : ℕ) (log facts others : List Fact) (r s : Reply) → IsSound roster log → IsPart facts log → IsPart others log
    → RepliesSame roster facts others r → RepliesSame roster facts others s → r ≡ s
one_same roster log facts others r s sound part its h k =
    let x = meaning_exists log facts (log_of_sound roster log sound) part in
    let y = meaning_exists log others (log_of_sound roster log sound) its in
    h.is ∙ ap Answer (one_bool h.answer k.answer (x.0 ≡ y.0) (h.tells x.0 y.0 x.1 y.1) (k.tells x.0 y.0 x.1 y.1)) ∙ sym k.is

one_covers : (roster : ℕ) (log facts others : List Fact) (r s : Reply) → IsSound roster log → IsPart facts log → IsPart others log
    → RepliesCovers roster facts others r → RepliesCovers roster facts others s → r ≡ s
one_covers roster log facts others r s sound part its h k =
    let y = meaning_exists log facts (log_of_sound roster log sound) part in
    let x = meaning_exists log others (log_of_sound roster log sound) its in
    h.is ∙ ap Answer (one_bool h.answer k.answer (Covers y.0 x.0) (h.tells y.0 x.0 y.1 x.1) (k.tells y.0 x.0 y.1 x.1)) ∙ sym k.is

-- what is not answered for is one thing, and then not everything is answered for

not_both : (facts : List Fact) (p : Position) (m : Meaning) (shown : Shown) → AnswersFor facts p (summary_of_meaning m) → LeavesUncovered facts p m shown → ⊥
not_both facts p m (OfAnchor a) all h = let low : m.anchor ≤ p.anchor = all.anchor in
    omega (arith, low, h.1)
not_both facts p m (OfKey key) all h = h.1.has.1 (all.keys key h.1.has.0)

one_shown : (facts : List Fact) (p : Position) (m : Meaning) (x y : Shown) → LeavesUncovered facts p m x → LeavesUncovered facts p m y → x ≡ y
one_shown facts p m (OfAnchor a) (OfAnchor b) h k = ap OfAnchor (h.0 ∙ sym k.0)
one_shown facts p m (OfAnchor a) (OfKey l) h k = absurd (omega (arith, h.1, k.0))
one_shown facts p m (OfKey l) (OfAnchor a) h k = absurd (omega (arith, h.0, k.1))
one_shown facts p m (OfKey a) (OfKey b) h k =
    ⊎_elim
    (λ (e : b ≡ a). ap OfKey (sym e))
    (λ (x : KeyBefore a b). ⊎_elim
    (λ (e : a ≡ b). ap OfKey e)
    (λ (y : KeyBefore b a). absurd (pair_apart a.epoch a.number b.epoch b.number x y))
    (k.1.least a h.1.has))
    (h.1.least b k.1.has)

one_absorb : (roster : ℕ) (log facts asked : List Fact) (r s : Reply) → IsSound roster log → IsPart asked log → RepliesAbsorb roster facts asked r
    → RepliesAbsorb roster facts asked s → r ≡ s
one_absorb roster log facts asked r s sound its h k =
    let meaning = meaning_exists log asked (log_of_sound roster log sound) its in
    let m = meaning.0 in
    let p = k.p in
    let ReportsAnswer : Position → Reply → Type 0 =
    λ q t. ((t ≡ Absorbed) × AnswersFor facts q (summary_of_meaning m)) ⊎ ((shown : Shown) × (t ≡ Uncovered shown) × LeavesUncovered facts q m shown) in
    let one : ReportsAnswer p r = subst (λ q. ReportsAnswer q r) (one_place facts h.p k.p h.position k.position) (h.tells m meaning.1) in
    ⊎_elim
    (λ (x : (r ≡ Absorbed) × AnswersFor facts p (summary_of_meaning m)). ⊎_elim
    (λ (y : (s ≡ Absorbed) × AnswersFor facts p (summary_of_meaning m)). x.0 ∙ sym y.0)
    (λ (y : (shown : Shown) × (s ≡ Uncovered shown) × LeavesUncovered facts p m shown). absurd (not_both facts p m y.0 x.1 y.2))
    (k.tells m meaning.1))
    (λ (x : (shown : Shown) × (r ≡ Uncovered shown) × LeavesUncovered facts p m shown). ⊎_elim
    (λ (y : (s ≡ Absorbed) × AnswersFor facts p (summary_of_meaning m)). absurd (not_both facts p m x.0 y.1 x.2))
    (λ (y : (shown : Shown) × (s ≡ Uncovered shown) × LeavesUncovered facts p m shown).
    x.1 ∙ ap (λ z. Uncovered z) (one_shown facts p m x.0 y.0 x.2 y.2) ∙ sym y.1)
    (k.tells m meaning.1))
    one

-- both have come, so neither lacked memory
one_of_two : (r s : Reply) (P : Reply → Type 0) → (P r → P s → r ≡ s) → (r ≡ Memory) ⊎ P r → (s ≡ Memory) ⊎ P s → HasCome r → HasCome s → r ≡ s
one_of_two r s P one h k come came = ⊎_elim (λ e. absurd (lacking r e come)) (λ x. ⊎_elim (λ e. absurd (lacking s e came)) (λ y. one x y) k) h

-- there is no such message, or one reply where there is
one_if_there : {A : Type 0} (o : Option A) (n : ℕ) (P : A → Reply → Type 0) (r s : Reply) → MatchOption o (r ≡ NoMessage n) (λ a. P a r)
    → MatchOption o (s ≡ NoMessage n) (λ a. P a s) → ((a : A) → o ≡ Some a → P a r → P a s → r ≡ s) → r ≡ s
one_if_there o n P r s h k one = search rules

-- ---- the sets that messages speak of are of the log

answered_part_by : (log : List Fact) (messages : List Message) → AllByRecursion (IsMessageOf log) messages → (n : ℕ) (x : List Fact × List Fact)
    (o : Option Message) → numbered messages n ≡ o → answered_by o ≡ Some x → IsPart x.0 log × IsPart x.1 log
answered_part_by log messages all n x o is there = search (rules, number_has)

answered_part : (log : List Fact) (messages : List Message) → AllByRecursion (IsMessageOf log) messages → (n : ℕ) (x : List Fact × List Fact)
    → answered_in messages n ≡ Some x → IsPart x.0 log × IsPart x.1 log
answered_part log messages all n x there = answered_part_by log messages all n x (numbered messages n) refl there

asked_part_by : (log : List Fact) (messages : List Message) → AllByRecursion (IsMessageOf log) messages → (n : ℕ) (x : List Fact) (o : Option Message)
    → numbered messages n ≡ o → asked_by o ≡ Some x → IsPart x log
asked_part_by log messages all n x o is there = search (rules, number_has)

asked_part : (log : List Fact) (messages : List Message) → AllByRecursion (IsMessageOf log) messages → (n : ℕ) (x : List Fact)
    → asked_in messages n ≡ Some x → IsPart x log
asked_part log messages all n x there = asked_part_by log messages all n x (numbered messages n) refl there

-- ---- a node has one reply to a step

one_of_node : (roster : ℕ) (log facts others : List Fact) (messages : List Message) (x : Step Fact) (r s : Reply) → IsSound roster log
    → IsPart facts log → IsPart others log → AllByRecursion (IsMessageOf log) messages → NodeReplies roster facts others messages x r
    → NodeReplies roster facts others messages x s → HasCome r → HasCome s → r ≡ s
one_of_node roster log facts others messages (step.Take i fact) r s sound part its all h k =
    one_of_two r s (RepliesTake roster facts fact) (one_take roster log facts fact r s sound part) h k
one_of_node roster log facts others messages (step.Fold i g) r s sound part its all h k = one_of_two r s (λ t. t ≡ Folded) (λ x y. x ∙ sym y) h k
one_of_node roster log facts others messages (step.Discard i) r s sound part its all h k = λ come came. h ∙ sym k
one_of_node roster log facts others messages (step.Front i) r s sound part its all h k = λ come came. one_told_front roster facts r s h k
one_of_node roster log facts others messages (step.Read i g q offset len) r s sound part its all h k =
    one_of_two r s (RepliesRead roster facts g q) (one_told_read roster facts g q r s) h k
one_of_node roster log facts others messages (step.Join i j) r s sound part its all h k = one_of_two r s (λ t. t ≡ Joined) (λ x y. x ∙ sym y) h k
one_of_node roster log facts others messages (step.Same i j) r s sound part its all h k =
    one_of_two r s (RepliesSame roster facts others) (one_same roster log facts others r s sound part its) h k
one_of_node roster log facts others messages (step.Covers i j) r s sound part its all h k =
    one_of_two r s (RepliesCovers roster facts others) (one_covers roster log facts others r s sound part its) h k
one_of_node roster log facts others messages (step.Wipe i) r s sound part its all h k = one_of_two r s (λ t. t ≡ Wiped) (λ x y. x ∙ sym y) h k
one_of_node roster log facts others messages (step.Ask i) r s sound part its all h k =
    one_of_two r s (λ t. t ≡ MessageIs (length messages + 1)) (λ x y. x ∙ sym y) h k
one_of_node roster log facts others messages (step.Answer i n) r s sound part its all h k = λ come came.
    one_if_there (asked_in messages n) n (λ asked. RepliesNumber messages) r s h k
    (λ asked there x y. one_of_two r s (λ t. t ≡ MessageIs (length messages + 1)) (λ e f. e ∙ sym f) x y come came)
one_of_node roster log facts others messages (step.Absorb i n) r s sound part its all h k = λ come came.
    one_if_there (answered_in messages n) n (λ a t. (t ≡ Memory) ⊎ RepliesAbsorb roster facts a.0 t) r s h k
    (λ a there x y. one_of_two r s (RepliesAbsorb roster facts a.0)
    (one_absorb roster log facts a.0 r s sound (answered_part log messages all n a there).0) x y come came)

-- ---- and so has the machine

none_of : (log : List Fact) → IsPart [] log
none_of log x h = absurd (none_in x h)

part_of : (log : List Fact) (m : Machine) (node : ℕ) → IsMachineOf log m → IsPart (node_facts m node) log
part_of log m node of = all_at (λ facts. IsPart facts log) m.nodes (node - 1) [] (none_of log) of.nodes

one_matched : (o : Option ℕ) (P : Reply → Type 0) (r s : Reply) → MatchOption o (P r) (λ i. r ≡ NoNode i) → MatchOption o (P s) (λ i. s ≡ NoNode i)
    → (P r → P s → r ≡ s) → r ≡ s
one_matched o P r s h k one = search rules

pub one_reply : OneReply
one_reply roster log m x r s sound of h k come came =
    one_matched (first_missing (length m.nodes) (nodes_of x)) (Replies roster m x) r s h k
    (λ p q. one_of_node roster log (node_facts m (node_of x)) (node_facts m (other_of x)) m.messages x r s sound (part_of log m (node_of x) of)
    (part_of log m (other_of x) of) of.messages p q come came)

-- ---- scripts

with_one : (log facts : List Fact) (fact : Fact) → IsPart facts log → Contains log fact → IsPart (facts ++ fact ∷ []) log
with_one log facts fact part among x h =
    ⊎_elim
    (part x)
    (λ (y : Contains (fact ∷ []) x). ⊎_elim (λ (e : fact ≡ x). subst (Contains log) e among) (λ (none : Contains [] x). absurd (none_in x none)) (which fact [] x y))
    (Contains-append_cases facts (fact ∷ []) x h)

brought_part : (log : List Fact) (o : Option (List Fact × List Fact)) → ((x : List Fact × List Fact) → o ≡ Some x → IsPart x.0 log × IsPart x.1 log)
    → IsPart (brought_by o) log
brought_part log o parts = search rules

part_after : (log facts others : List Fact) (messages : List Message) (x : Step Fact) (r : Reply) → IsPart facts log → IsPart others log
    → AllByRecursion (IsMessageOf log) messages → TakesFrom log x → IsPart (facts_after facts others messages x r) log
part_after log facts others messages (step.Take i fact) Changed part its all among = with_one log facts fact part among
part_after log facts others messages (step.Take i fact) Unchanged part its all among = with_one log facts fact part among
part_after log facts others messages (step.Join i j) Joined part its all among = both facts others log part its
part_after log facts others messages (step.Wipe i) Wiped part its all among = none_of log
part_after log facts others messages (step.Absorb i n) Absorbed part its all among =
    both facts (brought_by (answered_in messages n)) log part (brought_part log (answered_in messages n) (answered_part log messages all n))
part_after log facts others messages x r part its all among = part

none_more : {A : Type 0} (P : A → Type 0) (xs : List A) → AllByRecursion P xs → AllByRecursion P (xs ++ [])
none_more P xs all = search rules

with_answer : (log : List Fact) (messages : List Message) (facts : List Fact) (o : Option (List Fact)) → AllByRecursion (IsMessageOf log) messages
    → IsPart facts log → ((x : List Fact) → o ≡ Some x → IsPart x log) → AllByRecursion (IsMessageOf log) (messages ++ answers_to o facts)
with_answer log messages facts None all part parts = none_more (IsMessageOf log) messages all
with_answer log messages facts (Some asked) all part parts = all_push (IsMessageOf log) messages (Answered asked facts) all (parts asked refl, part)

messages_part : (log : List Fact) (messages : List Message) (facts : List Fact) (x : Step Fact) (r : Reply) → AllByRecursion (IsMessageOf log) messages
    → IsPart facts log → AllByRecursion (IsMessageOf log) (messages_after messages facts x r)
messages_part log messages facts (step.Ask i) (MessageIs n) all part = all_push (IsMessageOf log) messages (Asked facts) all part
messages_part log messages facts (step.Answer i k) (MessageIs n) all part =
    with_answer log messages facts (asked_in messages k) all part (asked_part log messages all k)
messages_part log messages facts x r all part = all

machine_of_after : (log : List Fact) (m : Machine) (x : Step Fact) (r : Reply) → IsMachineOf log m → TakesFrom log x → IsMachineOf log (after m x r)
machine_of_after log m x r of takes = search (rules, part_of, part_after, all_set, messages_part)

pub one_run : OneRun
one_run roster log m [] [] [] sound of takes h k come came = refl
one_run roster log m [] [] (s ∷ ss) sound of takes h k come came = absurd k
one_run roster log m [] (r ∷ rs) others sound of takes h k come came = absurd h
one_run roster log m (x ∷ xs) [] others sound of takes h k come came = absurd h
one_run roster log m (x ∷ xs) (r ∷ rs) [] sound of takes h k come came = absurd k
one_run roster log m (x ∷ xs) (r ∷ rs) (s ∷ ss) sound of takes h k come came =
    let same : s ≡ r = sym (one_reply roster log m x r s sound of h.0 k.0 come.0 came.0) in
    let rest : rs ≡ ss =
    one_run roster log (after m x r) xs rs ss sound (machine_of_after log m x r of takes.0) takes.1 h.1
    (subst (λ y. AreReplies roster (after m x y) xs ss) same k.1) come.1 came.1 in
    cc
