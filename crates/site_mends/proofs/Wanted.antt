-- What wants a rescue, and what doesn't.
use Rattle.std.proofs.Common.{◌≡◌, ℕ, cond, true, false, Bool, not, ◌&&◌, ◌||◌, ◌==◌, List, [], ◌∷◌, ◌++◌, length, Option, None, Some, refl, sym, ap, subst, ◌∙◌, append_assoc, arith}
use Rattle.std.proofs.lemmas.Bool.{false≢true}
use Rattle.std.proofs.lemmas.Bool.Decides.{nat_tests}
use Rattle.std.proofs.lemmas.Bool.{eqb-true}
use Rattle.std.specs.List.{list_all, list_any}
use Rattle.std.specs.Str.{bytes_eq}
use Rattle.locus_ids.specs.declared.ids.Stamp.{Stamp}
use Rattle.commit_graph.specs.Versions.{same_stamp}
use Rattle.dir_format.specs.Entries.{is_live, nothing_seen}
use Rattle.dir_format.specs.Contents.{entries_of, entries_from, is_dir}
use Rattle.dir_format.specs.Grammar.{dir_bytes}
use Rattle.dir_format.specs.declared.entry.Entry.{Entry}
use Rattle.version_vector.specs.Counters.{AllLe, all_le, joined}
use Rattle.version_vector.proofs.Counting.{AllLe-from_test, AllLe-joined_left, AllLe-joined_right, AllLe-same, AllLe-through, all_le-from_AllLe}
use Rattle.dir_reconcile.specs.Rescues.{all_seen, has_live, is_of, is_unseen, rescue_wanted, seen_from, seen_with, wants_rescue}
use Rattle.dir_reconcile.specs.declared.kept.KeptVector.{KeptVector}
use Rattle.site_frame.specs.of_role_steps.Mends.{kept_vectors, wants_rescue_in, wants_rescue_of}
use Rattle.site_frame.specs.of_role_steps.Storage.{content_of}
use Rattle.site_frame.specs.of_role_steps.declared.copies.FileCopy.{FileCopy}
use Rattle.site_frame.specs.of_role_steps.declared.synchronizing.SyncTable.{SyncTable}
use Rattle.site_mends.specs.Scanning.{are_past, is_missed, is_past}

and_none : (b : Bool) → (b && false) ≡ false
and_none true = refl
and_none false = refl

and_one : (b : Bool) → (b && true) ≡ b
and_one true = refl
and_one false = refl

-- ---- what a removal saw ----

seen_more : (ino : ℕ) (v : List ℕ) (d : Entry) → AllLe v (seen_with ino v d)
seen_more ino v d = by_inode (is_of ino d) where
  by_inode : (b : Bool) → AllLe v (cond b (joined v d.seen) v)
  by_inode true = AllLe-joined_left v d.seen
  by_inode false = AllLe-same v

grows : (ino : ℕ) (v : List ℕ) (ds : List Entry) → AllLe v (seen_from ino v ds)
grows ino v [] = AllLe-same v
grows ino v (d ∷ ds) = AllLe-through v (seen_with ino v d) (seen_from ino (seen_with ino v d) ds) (seen_more ino v d) (grows ino (seen_with ino v d) ds)

equal_self : (n : ℕ) → (n == n) ≡ true
equal_self n = grind (arith, nat_tests)

own_seen : (v : List ℕ) (d : Entry) → AllLe d.seen (seen_with d.ino v d)
own_seen v d = subst (λ (b : Bool). AllLe d.seen (cond b (joined v d.seen) v)) (sym (equal_self d.ino)) (AllLe-joined_right v d.seen)

-- what one entry's removal saw, all removals of its inode saw together
covers : (v : List ℕ) (before : List Entry) (d : Entry) (ds : List Entry) → AllLe d.seen (seen_from d.ino v (before ++ (d ∷ ds)))
covers v [] d ds = AllLe-through d.seen (seen_with d.ino v d) (seen_from d.ino (seen_with d.ino v d) ds) (own_seen v d) (grows d.ino (seen_with d.ino v d) ds)
covers v (e ∷ before) d ds = covers (seen_with d.ino v e) before d ds

-- who saw more missed none of what was seen
one_seen : (ino : ℕ) (seen more : List ℕ) (v : KeptVector) → AllLe seen more → is_unseen ino seen v ≡ false → is_unseen ino more v ≡ false
one_seen ino seen more v up saw = by_order (all_le v.vector seen) refl where
  by_order : (b : Bool) → all_le v.vector seen ≡ b → is_unseen ino more v ≡ false
  by_order true e = ap (λ (b : Bool). (v.ino == ino) && not b) (all_le-from_AllLe v.vector more (AllLe-through v.vector seen more (AllLe-from_test v.vector seen e) up)) ∙ and_none (v.ino == ino)
  by_order false e = ap (λ (b : Bool). b && not (all_le v.vector more)) (sym (and_one (v.ino == ino)) ∙ (ap (λ (b : Bool). (v.ino == ino) && not b) (sym e) ∙ saw))

all_are_seen : (kept : List KeptVector) (ino : ℕ) (seen more : List ℕ) → AllLe seen more → is_missed kept ino seen ≡ false → is_missed kept ino more ≡ false
all_are_seen [] ino seen more up saw = refl
all_are_seen (v ∷ vs) ino seen more up saw = by_first (is_unseen ino seen v) refl saw (λ h. all_are_seen vs ino seen more up h) where
  by_first : (b : Bool) → is_unseen ino seen v ≡ b → (b || is_missed vs ino seen) ≡ false → (is_missed vs ino seen ≡ false → is_missed vs ino more ≡ false) → is_missed (v ∷ vs) ino more ≡ false
  by_first true e h later = absurd (false≢true (sym h))
  by_first false e h later = ap (λ (b : Bool). b || is_missed vs ino more) (one_seen ino seen more v up e) ∙ later h

-- ---- entries that bring about no rescue ----

past_wants : (kept : List KeptVector) (before : List Entry) (d : Entry) (ds : List Entry) → is_past kept d ≡ true → (not (is_live d) && wants_rescue (before ++ (d ∷ ds)) kept d.ino) ≡ false
past_wants kept before d ds past = by_live (is_live d) past where
  all : List Entry
  all = before ++ (d ∷ ds)

  by_seen : (b : Bool) → is_missed kept d.ino d.seen ≡ b → not b ≡ true → wants_rescue all kept d.ino ≡ false
  by_seen true e h = absurd (false≢true h)
  by_seen false e h = ap (λ (b : Bool). not (has_live d.ino all) && b) (all_are_seen kept d.ino d.seen (all_seen d.ino all) (covers nothing_seen before d ds) e) ∙ and_none (not (has_live d.ino all))

  by_live : (b : Bool) → (b || not (is_missed kept d.ino d.seen)) ≡ true → (not b && wants_rescue all kept d.ino) ≡ false
  by_live true h = refl
  by_live false h = by_seen (is_missed kept d.ino d.seen) refl h

-- nor do some of which each is such a one
none_wants : (kept : List KeptVector) (before ds : List Entry) → list_all (is_past kept) ds ≡ true → list_any (λ d. not (is_live d) && wants_rescue (before ++ ds) kept d.ino) ds ≡ false
none_wants kept before [] past = refl
none_wants kept before (d ∷ ds) past = by_first (is_past kept d) refl past (λ h. subst (λ (es : List Entry). list_any (λ e. not (is_live e) && wants_rescue es kept e.ino) ds ≡ false) (append_assoc before (d ∷ []) ds) (none_wants kept (before ++ (d ∷ [])) ds h)) where
  wants : Entry → Bool
  wants e = not (is_live e) && wants_rescue (before ++ (d ∷ ds)) kept e.ino

  by_first : (b : Bool) → is_past kept d ≡ b → (b && list_all (is_past kept) ds) ≡ true → (list_all (is_past kept) ds ≡ true → list_any wants ds ≡ false) → list_any wants (d ∷ ds) ≡ false
  by_first true e h later = (λ i. past_wants kept before d ds e i || later h i)
  by_first false e h later = absurd (false≢true h)

-- so no rescue is wanted in a directory of such entries
pub past_none : (kept : List KeptVector) (content : List ℕ) → are_past kept content ≡ true → rescue_wanted (entries_of content) kept ≡ false
past_none kept content past = by_bytes (bytes_eq (dir_bytes ds) content && is_dir ds) where
  ds : List Entry
  ds = entries_from (length content) content

  by_bytes : (b : Bool) → rescue_wanted (cond b ds []) kept ≡ false
  by_bytes true = none_wants kept [] ds past
  by_bytes false = refl

-- live entries bring about none
live_past : (kept : List KeptVector) (ds : List Entry) → list_all is_live ds ≡ true → list_all (is_past kept) ds ≡ true
live_past kept [] live = refl
live_past kept (d ∷ ds) live = by_first (is_live d) refl live (λ h. live_past kept ds h) where
  by_first : (b : Bool) → is_live d ≡ b → (b && list_all is_live ds) ≡ true → (list_all is_live ds ≡ true → list_all (is_past kept) ds ≡ true) → list_all (is_past kept) (d ∷ ds) ≡ true
  by_first true e h later = (λ i. (e i || not (is_missed kept d.ino d.seen)) && later h i)
  by_first false e h later = absurd (false≢true h)

abbrev rescue_by : List KeptVector → Bool → List Entry → Bool
rescue_by kept all ds = elim all [
  | true ↦ false
  | false ↦ rescue_wanted ds kept
]

pub wanted_in : (t : SyncTable) (content : List ℕ) → rescue_wanted (entries_of content) (kept_vectors t) ≡ wants_rescue_in t content
wanted_in t content = by_live (list_all is_live (entries_from (length content) content)) refl where
  by_live : (b : Bool) → list_all is_live (entries_from (length content) content) ≡ b → rescue_wanted (entries_of content) (kept_vectors t) ≡ wants_rescue_in t content
  by_live true e = past_none (kept_vectors t) content (live_past (kept_vectors t) (entries_from (length content) content) e) ∙ sym (ap (λ b. rescue_by (kept_vectors t) b (entries_of content)) e)
  by_live false e = sym (ap (λ b. rescue_by (kept_vectors t) b (entries_of content)) e)

abbrev wanted_by : SyncTable → FileCopy → Bool → Bool
wanted_by t x same = elim same [
  | true ↦ wants_rescue_in t x.content
  | false ↦ false
]

-- none is wanted in a copy without a removed entry
pub live_wants_none : (t : SyncTable) (stamp : Stamp) (o : Option FileCopy) → list_all is_live (entries_from (length (content_of o)) (content_of o)) ≡ true → false ≡ wants_rescue_of t stamp o
live_wants_none t stamp None live = refl
live_wants_none t stamp (Some x) live = by_stamp (same_stamp x.stamp stamp) refl where
  by_stamp : (b : Bool) → same_stamp x.stamp stamp ≡ b → false ≡ wants_rescue_of t stamp (Some x)
  by_stamp true e = sym (ap (wanted_by t x) e ∙ ap (λ b. rescue_by (kept_vectors t) b (entries_of x.content)) live)
  by_stamp false e = sym (ap (wanted_by t x) e)

pub nothing_past : (kept : List KeptVector) (rest : List ℕ) (none : Bool) → none ≡ (length rest == 0) → none ≡ true → are_past kept rest ≡ true
nothing_past kept [] none is e = refl
nothing_past kept (x ∷ xs) none is e = let none_long = eqb-true (length (x ∷ xs)) 0 (sym is ∙ e) in absurd (omega arith)
