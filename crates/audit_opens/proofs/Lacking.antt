-- Numbers and places of new files.
use Rattle.std.proofs.Common.{◌≡◌, ℕ, ◌+◌, ◌==◌, ◌≤◌, ◌&&◌, ◌||◌, Bool, true, false, List, [], ◌∷◌, Option, None, Some, length, filter, refl, sym, ap, ◌∙◌}
use Rattle.std.specs.Prelude.{nat_le}
use Rattle.std.specs.List.{find, list_any}
use Rattle.locus_ids.specs.declared.config.Config.{Config}
use Rattle.locus_ids.specs.declared.ids.CallId.{CallId}
use Rattle.locus_ids.specs.declared.ids.FileId.{FileId}
use Rattle.locus_ids.specs.declared.ids.Mode.{Mode}
use Rattle.locus_ids.specs.declared.ids.Mode.TheVariants.{Make}
use Rattle.locus_ids.specs.declared.refusal.Refusal.{Refusal}
use Rattle.tree_model.specs.Opening.{range_of}
use Rattle.tree_model.specs.Working.{list_of}
use Rattle.promises.specs.Past.{CallSoFar, Copy, Epoch, Past, copies_in, is_number, sync_of}
use Rattle.promises.specs.After.{is_id}
use Rattle.promises.specs.Tree.{is_underway_at, lacks_numbers, numbers_used, open_refusal, place_for}
use Rattle.past_laws.proofs.Names.{none_some}
use Rattle.past_laws.proofs.TreesLists.{any_one}
use Rattle.locus_ids.specs.declared.sites.Members.{Members}
use Rattle.trace_book.specs.declared.call.Call.{Call}
use Rattle.audit_tree.specs.Parts.{make_refusal_in, place_in, sync_in, used_among}
use Rattle.audit_tree.proofs.Ranges.{used_so}

or_none : (b : Bool) → b ≡ (b || false)
or_none true = refl
or_none false = refl

pub site_so : (place site : ℕ) → (place == site) ≡ is_number (list_of (Some place)) site
site_so place site = or_none (place == site)

none_found : {X : Type 0} (q r : X → Bool) (xs : List X) → find q xs ≡ None → list_any (λ x. q x && r x) xs ≡ false
none_found q r [] e = refl
none_found {X} q r (x ∷ xs) e = at (none_found q r xs) (q x) refl
  where
    at : (find q xs ≡ None → list_any (λ x. q x && r x) xs ≡ false) → (b : Bool) → q x ≡ b → ((q x && r x) || list_any (λ x. q x && r x) xs) ≡ false
    at later true t = none_some {X = X} x (sym e ∙ rw t refl)
    at later false t = rw t (later (sym (rw t refl) ∙ e))

-- A role by the members of an epoch is that in the epoch.
pub place_told : (c : Config) (t : Epoch) (group : ℕ) (k : CallSoFar) (members : Members) (own : ℕ) (words : Call) (place : Option ℕ) → list_of place ≡ place_in c members group own words → members ≡ t.members → own ≡ k.id.site → words ≡ k.words
    → list_of place ≡ place_for c t group k
place_told c t group k members own words place e m o w =
    e ∙ ap (λ (ms : Members). place_in c ms group own words) m ∙ ap (λ (s : ℕ). place_in c t.members group s words) o ∙ ap (λ (v : Call). place_in c t.members group k.id.site v) w

-- a make is refused as it is by the members of the epoch
pub make_told : (c : Config) (p : Past) (t : Epoch) (f : FileId) (k : CallSoFar) (m : Mode) (members : Members) (own : ℕ) (words : Call) (gave : Option Refusal) → gave ≡ make_refusal_in c members f.group own words → members ≡ t.members → own ≡ k.id.site → words ≡ k.words → m ≡ Make
    → gave ≡ open_refusal c p t k m f
make_told c p t f k m members own words gave e ms o w is =
    e ∙ ap (λ (x : Members). make_refusal_in c x f.group own words) ms ∙ ap (λ (s : ℕ). make_refusal_in c t.members f.group s words) o ∙ ap (λ (v : Call). make_refusal_in c t.members f.group k.id.site v) w
    ∙ ap (λ (x : Mode). open_refusal c p t k x f) (sym is)

pub sync_told : (c : Config) (t : Epoch) (group : ℕ) (members : Members) (site : Option ℕ) → list_of site ≡ sync_in c members group → members ≡ t.members → list_of site ≡ sync_of c t group
sync_told c t group members site e m = e ∙ ap (λ (ms : Members). sync_in c ms group) m

module _ (c : Config) (p : Past) (t : Epoch) (group site : ℕ) where
  pub made_so : (id : CallId) (k : CallSoFar) (place : Option ℕ) (there : Bool) → length (filter (is_id id) p.calls) ≤ 1 → Some k ≡ find (is_id id) p.calls → list_of place ≡ place_for c t group k → there ≡ is_number (list_of place) site
      → there ≡ list_any (λ (k : CallSoFar). is_id id k && is_number (place_for c t group k) site) p.calls
  made_so id k place there one found is e = e ∙ ap (λ ys. is_number ys site) is ∙ sym (any_one (is_id id) (λ (k : CallSoFar). is_number (place_for c t group k) site) p.calls k one (sym found))

  pub unmade_so : (id : CallId) → None ≡ find (is_id id) p.calls → false ≡ list_any (λ (k : CallSoFar). is_id id k && is_number (place_for c t group k) site) p.calls
  unmade_so id none = sym (none_found (is_id id) (λ (k : CallSoFar). is_number (place_for c t group k) site) p.calls (sym none))

  pub lacks_so : (copies : List Copy) (used makes : ℕ) (lacks : Bool) → copies ≡ copies_in p t site → used ≡ length (used_among group site copies) → makes ≡ length (filter (is_underway_at c p t group site) t.makes)
      → lacks ≡ nat_le (length (range_of site)) (used + makes) → lacks ≡ lacks_numbers c p t group site
  lacks_so copies used makes lacks is u m e =
      e ∙ ap (λ n. nat_le (length (range_of site)) (n + makes)) (u ∙ ap (λ vs. length (used_among group site vs)) is ∙ ap length (used_so p t group site))
      ∙ ap (λ n. nat_le (length (range_of site)) (length (numbers_used p t group site) + n)) m
