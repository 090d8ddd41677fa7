-- Links, boots and running sites while nothing of them changes.
use Rattle.std.proofs.Common.{◌≡◌, ◌≢◌, ℕ, ◌≤◌, ◌==◌, ◌⊎◌, Bool, true, false, cond, not, ◌&&◌, ◌||◌, List, [], ◌∷◌, map, Option, Some, None, refl, sym, ◌∙◌, ap, subst, inl, inr, arith, ◌<◌}
use Rattle.std.proofs.lemmas.Bool.Decides.{nat_tests}
use Rattle.std.specs.List.{list_any}
use Rattle.locus_ids.specs.Sizes.{sites_max}
use Rattle.role_steps.specs.Views.{SiteView, boot_in, all_sites}
use Rattle.the_run.specs.Worlds.{World, Place, Running, Stopped, CutCircuit, place_at, boot_of, is_between, is_cut, link_of, links_of, is_up}
use Rattle.run_laws.proofs.Epochs.Boots.{boot_there, boot_nowhere, boot_or_none}
use Rattle.row_laws.specs.Orderly.Settling.{boot_at}

-- ---- running sites ----

-- what has a boot number runs
pub runs : (o : Option Place) → boot_of o ≢ 0 → (v : SiteView) × (o ≡ Some (Running v)) × (v.boot ≡ boot_of o)
runs None h = absurd (h refl)
runs (Some (Stopped d)) h = absurd (h refl)
runs (Some (Running v)) h = (v, refl, refl)

pub view_eq : (o : Option Place) (v u : SiteView) → o ≡ Some (Running v) → o ≡ Some (Running u) → v ≡ u
view_eq o v u a b = running (sym a ∙ b)
  where
    running : ◌≡◌ {A = Option Place} (Some (Running v)) (Some (Running u)) → v ≡ u
    running e = cc

pub boot_here : (w : World) (s : ℕ) (v : SiteView) → place_at w s ≡ Some (Running v) → boot_at w s ≡ v.boot
boot_here w s v e = ap boot_of e

-- ---- links ----

map_same : (f g : ℕ → ℕ) (xs : List ℕ) → ((x : ℕ) → f x ≡ g x) → map f xs ≡ map g xs
map_same f g [] h = refl
map_same f g (x ∷ xs) h = cons (h x) (map_same f g xs h)
  where
    cons : {a b : ℕ} {ys zs : List ℕ} → a ≡ b → ys ≡ zs → a ∷ ys ≡ b ∷ zs
    cons e k = cc

-- the same boots and circuits give the same links
pub links_same : (w u : World) (s : ℕ) → ((t : ℕ) → boot_at u t ≡ boot_at w t) → u.circuits ≡ w.circuits → links_of u s ≡ links_of w s
links_same w u s boots circuits = ap (λ (xs : List ℕ). record { boot = xs }) (map_same (link_of u s) (link_of w s) all_sites link)
  where
    link : (t : ℕ) → link_of u s t ≡ link_of w s t
    link t = ap (λ (cs : List CutCircuit). cond (list_any (is_between s t) cs) 0 (boot_at u t)) circuits ∙ ap (λ (b : ℕ). cond (is_cut w s t) 0 b) (boots t)

-- a site is linked where its circuit isn't cut, with its boot number
pub link_boot : (w : World) (s t : ℕ) → boot_in (links_of w s).boot t ≢ 0 → (boot_in (links_of w s).boot t ≡ boot_at w t) × (is_cut w s t ≡ false)
link_boot w s t h = by_case (boot_or_none (link_of w s) t)
  where
    by_cut : (b : Bool) → is_cut w s t ≡ b → boot_in (links_of w s).boot t ≡ cond b 0 (boot_at w t) → (boot_in (links_of w s).boot t ≡ boot_at w t) × (is_cut w s t ≡ false)
    by_cut true c e = absurd (h e)
    by_cut false c e = (e, c)

    by_case : (boot_in (links_of w s).boot t ≡ link_of w s t) ⊎ (boot_in (links_of w s).boot t ≡ 0) → (boot_in (links_of w s).boot t ≡ boot_at w t) × (is_cut w s t ≡ false)
    by_case (inl e) = by_cut (is_cut w s t) refl e
    by_case (inr e) = absurd (h e)

pub link_sized : (w : World) (s t : ℕ) → sites_max < t → boot_in (links_of w s).boot t ≡ 0
link_sized w s t h = boot_nowhere (link_of w s) t h

-- circuits have no direction
swap : (a b : ℕ) (x : CutCircuit) → is_between a b x ≡ is_between b a x
swap a b x = by_tests (x.one == a) (x.other == b) (x.one == b) (x.other == a)
  where
    by_tests : (p q r s : Bool) → ((p && q) || (r && s)) ≡ ((r && s) || (p && q))
    by_tests true true true true = refl
    by_tests true true true false = refl
    by_tests true true false true = refl
    by_tests true true false false = refl
    by_tests true false true true = refl
    by_tests true false true false = refl
    by_tests true false false true = refl
    by_tests true false false false = refl
    by_tests false true true true = refl
    by_tests false true true false = refl
    by_tests false true false true = refl
    by_tests false true false false = refl
    by_tests false false true true = refl
    by_tests false false true false = refl
    by_tests false false false true = refl
    by_tests false false false false = refl

any_same : (p q : CutCircuit → Bool) (xs : List CutCircuit) → ((x : CutCircuit) → p x ≡ q x) → list_any p xs ≡ list_any q xs
any_same p q [] h = refl
any_same p q (x ∷ xs) h = ap (λ (b : Bool). b || list_any p xs) (h x) ∙ ap (λ (b : Bool). q x || b) (any_same p q xs h)

pub cut_swap : (w : World) (s t : ℕ) → is_cut w s t ≡ is_cut w t s
cut_swap w s t = any_same (is_between s t) (is_between t s) w.circuits (swap s t)

-- a linked site links back
pub link_back : (w : World) (s t : ℕ) → 1 ≤ s → s ≤ sites_max → boot_in (links_of w s).boot t ≢ 0 → boot_in (links_of w t).boot s ≡ boot_at w s
link_back w s t low high h =
    boot_there (link_of w t) s low high ∙ subst (λ (b : Bool). cond b 0 (boot_at w s) ≡ boot_at w s) (sym (sym (cut_swap w s t) ∙ (link_boot w s t h).1)) refl

-- a packet can come between linked sites
pub is_up_linked : (w : World) (s t : ℕ) → boot_at w s ≢ 0 → boot_at w t ≢ 0 → is_cut w s t ≡ false → is_up w s t ≡ true
is_up_linked w s t a b c = rw c (both (boot_at w s) (boot_at w t) a b)
  where
    both : (x y : ℕ) → x ≢ 0 → y ≢ 0 → (not (x == 0) && (not (y == 0) && true)) ≡ true
    both x y e f = grind (arith, nat_tests)
