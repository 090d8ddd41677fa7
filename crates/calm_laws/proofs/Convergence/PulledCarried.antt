-- What carries what a pull waits for: the Want or the Pull to its holder, or the Delta or the Page that answers it. And what handlers leave
-- of pulls: each that stood before, and others of which what they want next is sent.
use Rattle.std.proofs.Common.{Bool, List, None, Option, Some, [], ap, arith, cond, false, inl, inr, length, not, refl, subst, sym, true, ℕ, ◌&&◌, ◌++◌, ◌-◌, ◌==◌, ◌∙◌, ◌∷◌, ◌≡◌, ◌⊎◌}
use Rattle.std.proofs.lemmas.Bool.Decides.{nat_tests}
use Rattle.std.specs.Option.{is_some}
use Rattle.rest_laws.proofs.TableNoting.{ascends_found}
use Rattle.calm_laws.specs.Carrying.{IsMember, frame_of}
use Rattle.commit_graph.specs.Versions.{same_stamp}
use Rattle.calm_laws.proofs.Convergence.Lists.{among_row}
use Rattle.locus_ids.specs.declared.config.Config.{Config}
use Rattle.locus_ids.specs.declared.ids.Stamp.{Stamp}
use Rattle.file_content.specs.Pages.{pages_of}
use Rattle.store_laws.proofs.Tabled.{ascends_row}
use Rattle.store_laws.proofs.Users.Tabled.{among_with, one_row}
use Rattle.role_steps.proofs.of_plain_facts.Numbers.{equal_self}
use Rattle.role_steps.proofs.of_plain_facts.Options.{none_some, some_same}
use Rattle.role_steps.proofs.of_plain_facts.Tests.{true_false}
use Rattle.role_steps.specs.Pulling.{are_delta, begins_pull, bytes_in, goes_on, is_awaited, is_complete, is_delta, next_asked, next_page, on_delta_of, on_notify, on_page_of, pull_key, pull_of, pull_over, pull_packets, replaces_pull}
use Rattle.role_steps.specs.Storage.{delta_of}
use Rattle.role_steps.specs.Tables.{with_row}
use Rattle.role_steps.specs.Versions.{is_below}
use Rattle.role_steps.specs.Views.{Frame, Outcome, packet, quiet, sends}
use Rattle.role_steps.specs.declared.copies.FileCopy.{FileCopy}
use Rattle.role_steps.specs.declared.pulls.Pull.{Pull}
use Rattle.role_steps.specs.declared.rounds.InEpoch.{InEpoch}
use Rattle.the_run.specs.Kept.{Among}
use Rattle.the_run.specs.Worlds.{Numbered, World}
use Rattle.tree_laws.specs.Stores.{Ascends}
use Rattle.wire_messages.specs.declared.body.Body.{Body}
use Rattle.wire_messages.specs.declared.body.Body.TheVariants as body
use Rattle.wire_messages.specs.declared.packet.Packet.{Packet}

-- ---- what carries it ----

-- it asks the holder for what the pull wants next
pub record Asks (c : Config) (e : InEpoch) (s : ℕ) (p : Pull) (q : Packet) : Type 0 where
  pub is : q ≡ packet (frame_of c e s) p.holder (next_asked p p.base p.wanted)

-- the next page of the pull, or which pages it is to pull
abbrev pub Answers : Pull → Body → Type 0
Answers p (body.Page file stamp page bytes) = (file ≡ p.file) × (stamp ≡ p.stamp) × (page ≡ next_page p) × (is_some p.wanted ≡ true) × (length bytes ≡ bytes_in p.size (next_page p))
Answers p (body.Delta file stamp pages) = (file ≡ p.file) × (stamp ≡ p.stamp) × (p.wanted ≡ None) × ((since : Option (List ℕ)) × (pages ≡ delta_of (pages_of p.size) since))
Answers p _ = ⊥

-- it brings that
pub record Brings (c : Config) (e : InEpoch) (s : ℕ) (p : Pull) (q : Packet) : Type 0 where
  pub from : ℕ
  pub member : IsMember e from
  pub answer : Body
  pub answers : Answers p answer
  pub is : q ≡ packet (frame_of c e from) s answer

abbrev pub Carries : Config → InEpoch → ℕ → Pull → Packet → Type 0
Carries c e s p q = Asks c e s p q ⊎ Brings c e s p q

pub record OnWay (c : Config) (e : InEpoch) (w : World) (s : ℕ) (p : Pull) : Type 0 where
  pub letter : Numbered
  pub there : Among letter w.underway
  pub carries : Carries c e s p letter.packet

-- the pull is whole, or what it waits for is on its way
abbrev pub IsGoing : Config → InEpoch → World → ℕ → Pull → Type 0
IsGoing c e w s p = (is_complete p ≡ true) ⊎ OnWay c e w s p

-- ---- pulls that a handler leaves ----

-- a pull stood before, or what it wants next is asked of its holder
abbrev pub IsNewPull : Frame → List Pull → List Packet → Pull → Type 0
IsNewPull f old sent p = Among p old ⊎ ((q : Packet) → Among q (pull_packets f p) → Among q sent)

goes_new : (f : Frame) (q : Pull) (ps : List Pull) (p : Pull) → Among p (goes_on f q ps).view → IsNewPull f ps (goes_on f q ps).sent p
goes_new f q ps p a = over (among_row pull_key q p ps a)
  where
    over : (p ≡ q) ⊎ Among p ps → IsNewPull f ps (goes_on f q ps).sent p
    over (inl eq) = inr (λ z b. subst (λ (y : Pull). Among z (pull_packets f y)) eq b)
    over (inr b) = inl b

pub notify_new : (f : Frame) (from : ℕ) (own : Option FileCopy) (q : Pull) (ps : List Pull) (p : Pull) → Among p (on_notify f from own q ps).view → IsNewPull f ps (on_notify f from own q ps).sent p
notify_new f from own q ps p = by_own own
  where
    New : Outcome (List Pull) → Type 0
    New o = Among p o.view → IsNewPull f ps o.sent p

    begins : (z : Option FileCopy) → New (begins_pull f z q ps)
    begins z = by_test (replaces_pull z q (pull_of ps q.file))
      where
        by_test : (b : Bool) → New (elim b [ true ↦ goes_on f (pull_over z q) ps | false ↦ quiet ps ])
        by_test true = goes_new f (pull_over z q) ps p
        by_test false = λ a. inl a

    by_below : (o : FileCopy) (b : Bool) → New (elim b [ true ↦ begins_pull f (Some o) q ps | false ↦ quiet ps ])
    by_below o true = begins (Some o)
    by_below o false = λ a. inl a

    by_stamp : (o : FileCopy) (b : Bool) → New (elim b [ true ↦ sends (packet f from (body.Have q.file q.stamp) ∷ []) ps | false ↦ elim (is_below o.vector q.vector) [ true ↦ begins_pull f (Some o) q ps | false ↦ quiet ps ] ])
    by_stamp o true = λ a. inl a
    by_stamp o false = by_below o (is_below o.vector q.vector)

    by_own : (o : Option FileCopy) → New (on_notify f from o q ps)
    by_own None = begins None
    by_own (Some o) = by_stamp o (same_stamp o.stamp q.stamp)

pub page_new : (f : Frame) (stamp : Stamp) (page : ℕ) (bytes : List ℕ) (o : Option Pull) (ps : List Pull) (p : Pull) → Among p (on_page_of f stamp page bytes o ps).view → IsNewPull f ps (on_page_of f stamp page bytes o ps).sent p
page_new f stamp page bytes None ps p = λ a. inl a
page_new f stamp page bytes (Some z) ps p = by_test (is_awaited z stamp page bytes)
  where
    by_test : (b : Bool) → Among p (elim b as (λ (x : Bool). Outcome (List Pull)) [ true ↦ goes_on f (record z { content = z.content ++ bytes }) ps | false ↦ quiet ps ]).view → IsNewPull f ps (elim b as (λ (x : Bool). Outcome (List Pull)) [ true ↦ goes_on f (record z { content = z.content ++ bytes }) ps | false ↦ quiet ps ]).sent p
    by_test true = goes_new f (record z { content = z.content ++ bytes }) ps p
    by_test false = λ a. inl a

pub delta_new : (f : Frame) (own : ℕ) (stamp : Stamp) (pages : List ℕ) (o : Option Pull) (ps : List Pull) (p : Pull) → Among p (on_delta_of f own stamp pages o ps).view → IsNewPull f ps (on_delta_of f own stamp pages o ps).sent p
delta_new f own stamp pages None ps p = λ a. inl a
delta_new f own stamp pages (Some z) ps p = by_test (is_delta own z stamp pages)
  where
    by_test : (b : Bool) → Among p (elim b as (λ (x : Bool). Outcome (List Pull)) [ true ↦ goes_on f (record z { wanted = Some pages }) ps | false ↦ quiet ps ]).view → IsNewPull f ps (elim b as (λ (x : Bool). Outcome (List Pull)) [ true ↦ goes_on f (record z { wanted = Some pages }) ps | false ↦ quiet ps ]).sent p
    by_test true = goes_new f (record z { wanted = Some pages }) ps p
    by_test false = λ a. inl a

-- ---- what a pull awaits ----

pub stamp_itself : (a : Stamp) → same_stamp a a ≡ true
stamp_itself a = grind (arith, nat_tests)

-- a pull that goes on in its own row is what stands there
taken_row : (f : Frame) (p more : Pull) (ps : List Pull) → Ascends pull_key ps → pull_key p ≡ pull_key more → Among p (goes_on f more ps).view → (q : Packet) → Among q (pull_packets f p) → Among q (goes_on f more ps).sent
taken_row f p more ps up same there q k = subst (λ (y : Pull). Among q (pull_packets f y)) (one_row pull_key p more (with_row pull_key more ps) (ascends_row pull_key more ps up) there (among_with pull_key more ps) same) k

-- the page that it awaits makes it longer, and what it wants next is asked
pub page_taken : (f : Frame) (p : Pull) (bytes : List ℕ) (ps : List Pull) → Ascends pull_key ps → Among p ps → is_complete p ≡ false → is_some p.wanted ≡ true → length bytes ≡ bytes_in p.size (next_page p) → Among p (on_page_of f p.stamp (next_page p) bytes (pull_of ps p.file) ps).view →
    (q : Packet) → Among q (pull_packets f p) → Among q (on_page_of f p.stamp (next_page p) bytes (pull_of ps p.file) ps).sent
page_taken f p bytes ps up a unfinished told many there = by_pull (pull_of ps p.file) (ascends_found pull_key ps p up a) there
  where
    Sent : Outcome (List Pull) → Type 0
    Sent o = Among p o.view → (q : Packet) → Among q (pull_packets f p) → Among q o.sent

    more : Pull
    more = record p { content = p.content ++ bytes }

    awaited : is_awaited p p.stamp (next_page p) bytes ≡ true
    awaited = all (same_stamp p.stamp p.stamp) (is_some p.wanted) (is_complete p) (next_page p == next_page p) (length bytes == bytes_in p.size (next_page p)) (stamp_itself p.stamp) told unfinished (equal_self (next_page p))
        (ap (λ (m : ℕ). m == bytes_in p.size (next_page p)) many ∙ equal_self (bytes_in p.size (next_page p)))
      where
        all : (i t j k l : Bool) → i ≡ true → t ≡ true → j ≡ false → k ≡ true → l ≡ true → (i && (t && (not j && (k && l)))) ≡ true
        all true true false true true a b d g h = refl
        all true true false true false a b d g h = absurd (true_false (sym h))
        all true true false false l a b d g h = absurd (true_false (sym g))
        all true true true k l a b d g h = absurd (true_false d)
        all true false j k l a b d g h = absurd (true_false (sym b))
        all false t j k l a b d g h = absurd (true_false (sym a))

    by_test : (b : Bool) → b ≡ true → Sent (elim b [ true ↦ goes_on f more ps | false ↦ quiet ps ])
    by_test true e = taken_row f p more ps up refl
    by_test false e = λ there q k. absurd (true_false (sym e))

    by_pull : (o : Option Pull) → o ≡ Some p → Sent (on_page_of f p.stamp (next_page p) bytes o ps)
    by_pull None e = absurd (none_some p e)
    by_pull (Some z) e = subst (λ (y : Pull). Sent (on_page_of f p.stamp (next_page p) bytes (Some y) ps)) (sym (some_same z p e)) (by_test (is_awaited p p.stamp (next_page p) bytes) awaited)

-- the pages that it awaits are wanted then, and the first of them is asked
pub delta_taken : (f : Frame) (own : ℕ) (p : Pull) (pages : List ℕ) (ps : List Pull) → Ascends pull_key ps → Among p ps → p.wanted ≡ None → are_delta own (pages_of p.size) pages ≡ true → Among p (on_delta_of f own p.stamp pages (pull_of ps p.file) ps).view →
    (q : Packet) → Among q (pull_packets f p) → Among q (on_delta_of f own p.stamp pages (pull_of ps p.file) ps).sent
delta_taken f own p pages ps up a untold fits there = by_pull (pull_of ps p.file) (ascends_found pull_key ps p up a) there
  where
    Sent : Outcome (List Pull) → Type 0
    Sent o = Among p o.view → (q : Packet) → Among q (pull_packets f p) → Among q o.sent

    more : Pull
    more = record p { wanted = Some pages }

    answered : is_delta own p p.stamp pages ≡ true
    answered = all (same_stamp p.stamp p.stamp) (is_some p.wanted) (are_delta own (pages_of p.size) pages) (stamp_itself p.stamp) (ap is_some untold) fits
      where
        all : (i j k : Bool) → i ≡ true → j ≡ false → k ≡ true → (i && (not j && k)) ≡ true
        all true false true a b d = refl
        all true false false a b d = absurd (true_false (sym d))
        all true true k a b d = absurd (true_false b)
        all false j k a b d = absurd (true_false (sym a))

    by_test : (b : Bool) → b ≡ true → Sent (elim b [ true ↦ goes_on f more ps | false ↦ quiet ps ])
    by_test true e = taken_row f p more ps up refl
    by_test false e = λ there q k. absurd (true_false (sym e))

    by_pull : (o : Option Pull) → o ≡ Some p → Sent (on_delta_of f own p.stamp pages o ps)
    by_pull None e = absurd (none_some p e)
    by_pull (Some z) e = subst (λ (y : Pull). Sent (on_delta_of f own p.stamp pages (Some y) ps)) (sym (some_same z p e)) (by_test (is_delta own p p.stamp pages) answered)

-- what a pull wants next, where it isn't whole
pub next_among : (f : Frame) (p : Pull) → is_complete p ≡ false → Among (packet f p.holder (next_asked p p.base p.wanted)) (pull_packets f p)
next_among f p unfinished = over (is_complete p) unfinished
  where
    next : Packet
    next = packet f p.holder (next_asked p p.base p.wanted)

    over : (b : Bool) → b ≡ false → Among next (cond b [] (next ∷ []))
    over true e = absurd (true_false e)
    over false e = inl refl
