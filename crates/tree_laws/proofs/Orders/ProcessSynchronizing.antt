-- The site that a role takes for the synchronization site of a group is the one of the lawful trace.
use Rattle.std.proofs.Common.{◌≡◌, ℕ, zero, suc, ◌==◌, Bool, true, false, not, cond, ◌&&◌, List, [], ◌∷◌, Option, Some, refl, ◌∙◌, ap, arith, filter}
use Rattle.std.specs.List.{find}
use Rattle.std.specs.Prelude.{nat_lt, get_or}
use Rattle.std.proofs.lemmas.Bool.Decides.{nat_tests}
use Rattle.locus_ids.specs.Sites.{has}
use Rattle.locus_ids.specs.declared.config.Config.{Config}
use Rattle.locus_ids.specs.declared.sites.Members.{Members}
use Rattle.role_steps.specs.Views.{first_site, members_of, pack_sites, sync_site}
use Rattle.role_steps.specs.Views as role
use Rattle.tree_model.specs.Packs as tree

first_find : (p : ℕ → Bool) (xs : List ℕ) → first_site (filter p xs) ≡ find p xs
first_find p [] = refl
first_find p (x ∷ xs) = over (p x) (first_find p xs)
  where
    over : (b : Bool) → first_site (filter p xs) ≡ find p xs → first_site (cond b (x ∷ filter p xs) (filter p xs)) ≡ cond b (Some x) (find p xs)
    over true later = refl
    over false later = later

find_same : (p q : ℕ → Bool) (xs : List ℕ) → ((x : ℕ) → p x ≡ q x) → find p xs ≡ find q xs
find_same p q [] e = refl
find_same p q (x ∷ xs) e = ap (λ (b : Bool). cond b (Some x) (find p xs)) (e x) ∙ ap (λ (o : Option ℕ). cond (q x) (Some x) o) (find_same p q xs e)

above_zero : (b : ℕ) → not (b == 0) ≡ nat_lt 0 b
above_zero b = grind (arith, nat_tests)

member_same : (m : Members) (s : ℕ) → role.is_member m s ≡ tree.is_member m s
member_same m zero = refl
member_same m (suc place) = above_zero (get_or m.boot place 0)

swapped : (a b : Bool) → (a && b) ≡ (b && a)
swapped true true = refl
swapped true false = refl
swapped false true = refl
swapped false false = refl

pub sync_same : (c : Config) (m : Members) (group : ℕ) → sync_site c m group ≡ tree.sync_site c group (Some m)
sync_same c m group = first_find (λ s. has (pack_sites c group) s && role.is_member m s) role.all_sites
    ∙ find_same (λ s. has (pack_sites c group) s && role.is_member m s) (λ s. tree.is_member_of (Some m) s && tree.has_pack c group s) role.all_sites
    (λ s. swapped (has (pack_sites c group) s) (role.is_member m s) ∙ ap (λ (b : Bool). b && has (pack_sites c group) s) (member_same m s))
