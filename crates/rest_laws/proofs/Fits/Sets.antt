-- The set of sites of a file that stands isn't empty.
use Rattle.std.proofs.Common.{◌≡◌, ◌≤◌, ℕ, ◌+◌, ◌-◌, ◌==◌, nat_lt, Bool, true, false, ◌&&◌, ◌||◌, cond, List, [], ◌∷◌, get_or, Option, None, Some, refl, sym, ◌∙◌, ap, subst, arith, suc}
use Rattle.std.proofs.lemmas.Bool.Decides.{nat_tests}
use Rattle.std.proofs.lemmas.Nat.Bits.{bit_at-zero}
use Rattle.std.specs.Int.{bit_at}
use Rattle.std.specs.Option.{option_map}
use Rattle.role_steps.proofs.of_plain_facts.Tests.{and_first, and_second, true_false}
use Rattle.locus_ids.specs.Sites.{has}
use Rattle.locus_ids.specs.declared.config.Config.{Config}
use Rattle.locus_ids.specs.declared.ids.CallId.{CallId}
use Rattle.locus_ids.specs.declared.ids.FileId.{FileId}
use Rattle.locus_ids.specs.declared.ids.Stamp.{Stamp}
use Rattle.locus_ids.specs.declared.sites.Sites.{Sites}
use Rattle.schedule_lines.specs.Ranges.{is_some_sites, is_word}
use Rattle.commit_graph.specs.Versions.{is_in, is_version, same_file, same_stamp}
use Rattle.trace_book.specs.declared.call.Call.{Call}
use Rattle.trace_book.specs.declared.call.Call.TheVariants as call
use Rattle.trace_book.specs.declared.record.Record.{Record}
use Rattle.trace_book.specs.declared.record.Record.TheVariants as says
use Rattle.role_steps.specs.Views.{Told, Shown}
use Rattle.the_run.specs.Worlds.{Line}
use Rattle.site_laws.specs.Packs.Packs.{ToldPacked}
use Rattle.tree_model.specs.declared.accepted.Waiting.{Waiting}
use Rattle.tree_model.specs.Calls.{call_named}
use Rattle.tree_model.specs.Files.{first_call, making_words, set_of_file, words_named}
use Rattle.tree_model.specs.Histories.{format_version, format_versions, history, history_after}
use Rattle.tree_model.specs.Opening.{sites_made}
use Rattle.tree_model.specs.Packs.{no_sites, packs_of}
use Rattle.tree_laws.specs.Instances.{Stands}
use Rattle.tree_laws.specs.Printed.{entries, onto_entries}
use Rattle.tree_laws.proofs.Orders.Standing.{same_file_eq}
use Rattle.store_laws.specs.OneTree.Rest.{EachRest, Past, RangeCall}
use Rattle.rest_laws.specs.StoreStepKnown.{IsKnownCall}
use Rattle.rest_laws.proofs.StoreStepKnown.{known_call}

-- ---- packs of a group ----

none_in : (s : Sites) (site : ℕ) → s.0 ≡ 0 → has s site ≡ true → ⊥
none_in s site z h = true_false (sym h ∙ ap (λ (n : ℕ). bit_at n (site - 1) == 1) z ∙ ap (λ (n : ℕ). n == 1) (bit_at-zero (site - 1)))

-- a set with a site isn't empty
pub has_some : (set : Sites) (site : ℕ) → has set site ≡ true → 1 ≤ set.0
has_some set site h = over (nat_lt 0 set.0) refl
  where
    low : nat_lt 0 set.0 ≡ true → 1 ≤ set.0
    low e = grind (arith, nat_tests)

    zero_is : nat_lt 0 set.0 ≡ false → set.0 ≡ 0
    zero_is e = (let le : set.0 ≤ 0 = grind (arith, nat_tests) in omega (arith, le))

    over : (b : Bool) → nat_lt 0 set.0 ≡ b → 1 ≤ set.0
    over true e = low e
    over false e = absurd (none_in set site (zero_is e) h)

nonzero : (p : Sites) → (p.0 == 0) ≡ false → 1 ≤ p.0
nonzero p e = grind (arith, nat_tests)

format_packed : (k : ℕ) (packs : List Sites) (f : FileId) (s : Stamp) → is_in (format_versions k packs) f s ≡ true → (i : ℕ) × (f.group ≡ k + i) × (1 ≤ (get_or packs i no_sites).0)
format_packed k [] f s e = absurd (true_false (sym e))
format_packed k (p ∷ ps) f s e = at (p.0 == 0) refl (format_packed (k + 1) ps f s) e
  where
    Later : Type 0
    Later = (i : ℕ) × (f.group ≡ (k + 1) + i) × (1 ≤ (get_or ps i no_sites).0)

    Here : Type 0
    Here = (i : ℕ) × (f.group ≡ k + i) × (1 ≤ (get_or (p ∷ ps) i no_sites).0)

    more : Later → Here
    more (i, e, n) = (suc i, next e, n)
      where
        next : f.group ≡ (k + 1) + i → f.group ≡ k + suc i
        next e = omega (arith, e)

    none : k ≡ k + 0
    none = omega arith

    root : (p.0 == 0) ≡ false → (b : Bool) → is_version f s (format_version k) ≡ b → (is_in (format_versions (k + 1) ps) f s ≡ true → Later) → b || is_in (format_versions (k + 1) ps) f s ≡ true → Here
    root q true is later e = (0, ap (λ (g : FileId). g.group) (sym (same_file_eq (format_version k).file f (and_first (same_file (format_version k).file f) _ is))) ∙ none, nonzero p q)
    root q false is later e = more (later e)

    at : (b : Bool) → (p.0 == 0) ≡ b → (is_in (format_versions (k + 1) ps) f s ≡ true → Later) → is_in (cond b (format_versions (k + 1) ps) (format_version k ∷ format_versions (k + 1) ps)) f s ≡ true → Here
    at true q later e = more (later e)
    at false q later e = root q (is_version f s (format_version k)) refl later e

-- the group of a file that stands has packs
pub stands_packed : (c : Config) (t : List Line) → EachRest c t → (f : FileId) (s : Stamp) → is_in (history c (entries t)) f s ≡ true → 1 ≤ (packs_of c f.group).0
stands_packed c [] h f s e = (let k : _ × _ × _ = format_packed 0 c.packs f s e in subst (λ (g : ℕ). 1 ≤ (packs_of c g).0) (sym (k.1 ∙ plain k.0)) k.2)
  where
    plain : (i : ℕ) → 0 + i ≡ i
    plain i = omega arith
stands_packed c (x ∷ older) h f s e = over x.told h.0.packed (stands_packed c older h.1 f s) e
  where
    Before : Type 0
    Before = is_in (history c (entries older)) f s ≡ true → 1 ≤ (packs_of c f.group).0

    printed : (r : Record) → ToldPacked c (Shown r) → Before → is_in (history_after r (history c (entries older))) f s ≡ true → 1 ≤ (packs_of c f.group).0
    printed (says.Commit g z stamp parents content) packed later e = at (same_file g f && same_stamp stamp s) refl e
      where
        at : (b : Bool) → (same_file g f && same_stamp stamp s) ≡ b → b || is_in (history c (entries older)) f s ≡ true → 1 ≤ (packs_of c f.group).0
        at true is e = subst (λ (y : FileId). 1 ≤ (packs_of c y.group).0) (same_file_eq g f (and_first (same_file g f) _ is)) (has_some (packs_of c g.group) z packed.0)
        at false is e = later e
    printed _ packed later e = later e

    over : (y : Told) → ToldPacked c y → Before → is_in (history c (onto_entries x.number y (entries older))) f s ≡ true → 1 ≤ (packs_of c f.group).0
    over (Shown r) packed later e = printed r packed later e
    over _ packed later e = later e

-- ---- the sites that a call gives ----

call_some : (c : Config) (d : CallId) (w : Waiting) → IsKnownCall c d w → (packs : Sites) → 1 ≤ packs.0 → 1 ≤ (sites_made packs (Some w.words)).0
call_some c d w known packs some = over w.words known.range
  where
    asked : (n : ℕ) (path : List ℕ) (set : Sites) → is_word path && is_some_sites n set ≡ true → 1 ≤ set.0
    asked n path set e = low (and_first (nat_lt 0 set.0) _ (and_second (is_word path) _ e))
      where
        low : nat_lt 0 set.0 ≡ true → 1 ≤ set.0
        low e = grind (arith, nat_tests)

    over : (words : Call) → RangeCall c d.site w.process words → 1 ≤ (sites_made packs (Some words)).0
    over (call.Create path (Some set)) range = asked c.sites path set range.fits
    over (call.Create path None) range = some
    over (call.MakeDir path) range = some
    over (call.Unlink path) range = some
    over (call.RemoveDir path) range = some
    over (call.Rename path name) range = some
    over (call.List path) range = some
    over (call.Stat path) range = some
    over (call.Mail path bytes) range = some
    over (call.Mails path) range = some
    over (call.Open path mode) range = some
    over (call.Read fd at len) range = some
    over (call.Write fd at bytes) range = some
    over (call.Cut fd len) range = some
    over (call.Commit fd) range = some
    over (call.Abort fd) range = some
    over (call.Close fd) range = some
    over (call.Mend file) range = some

-- the sites of what a call makes
pub made_some : (c : Config) (t : List Line) → Past c t → (packs : Sites) → 1 ≤ packs.0 → (d : Option CallId) → 1 ≤ (sites_made packs (words_named (entries t) d)).0
made_some c t past packs some None = some
made_some c t past packs some (Some d) = over (call_named (entries t) d) refl
  where
    over : (o : Option Waiting) → call_named (entries t) d ≡ o → 1 ≤ (sites_made packs (option_map (λ (w : Waiting). w.words) o)).0
    over None e = some
    over (Some w) e = call_some c d w (known_call c t past.followed past.rest.each d w e) packs some

pub set_some : (c : Config) (t : List Line) → Past c t → (f : FileId) (s : Stamp) → Stands c t f s → 1 ≤ (set_of_file c (entries t) f).0
set_some c t past f s stands = over (f.ino == 1)
  where
    some : 1 ≤ (packs_of c f.group).0
    some = stands_packed c t past.rest.each f s stands

    over : (b : Bool) → 1 ≤ (cond b (packs_of c f.group) (sites_made (packs_of c f.group) (making_words c (entries t) f))).0
    over true = some
    over false = made_some c t past (packs_of c f.group) some (first_call c (entries t) f)
