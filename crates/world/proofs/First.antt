-- The first world.
use Rattle.std.proofs.Common.{◌≡◌, ℕ, zero, suc, ◌+◌, ◌<◌, ◌≤◌, nat_lt, List, [], ◌∷◌, ◌++◌, length, min, Option, Some, None, add-one, refl, sym, ap, subst, ◌∙◌, arith}
use Rattle.std.specs.Prelude.{slice_get}
use Rattle.std.proofs.lemmas.Bool.Decides.{nat_tests}
use Rattle.std.proofs.lemmas.Option.{slice_get_within}
use Rattle.std.proofs.lemmas.List.{length-append}
use Rattle.locus_ids.specs.Sizes.{sites_max}
use Rattle.locus_ids.specs.declared.config.Config.{Config}
use Rattle.the_run.specs.Worlds.{Place, place_at, first_world}
use Rattle.the_run.proofs.FirstWorld.{first_places as each_place, first_there}
use Rattle.site_place.specs.Places.{PlaceState}
use Rattle.run_book.specs.Ledgers.{Ledger, no_ledger, Keeps}
use Rattle.world.specs.States.{WorldState, state_at, place_of, first_state, AreFirst}
use Rattle.run_book.specs.declared.writing.Writing.{Writing}
use Rattle.world.specs.Shown.{nothing_taken, IsSite, Shows}
use Rattle.world.proofs.Tables.{split, either, state_none}
use Rattle.world.proofs.Events.{own_along}

module _ (c : Config) where
  -- no place is of a site that the cluster hasn't got
  none_there : (s : ℕ) → c.sites + 1 ≤ s → place_at (first_world c) s ≡ None
  none_there s high = by_place (place_at (first_world c) s) refl
    where
      by_place : (o : Option Place) → place_at (first_world c) s ≡ o → place_at (first_world c) s ≡ None
      by_place None here = here
      by_place (Some p) here = absurd (let low : s ≤ c.sites = each_place c (λ t q. t ≤ c.sites) (λ t own. own.1) s p here in omega (arith, high, low))

  first_places : (places : List PlaceState) → AreFirst c (min c.sites sites_max) places → (s : ℕ) → 1 ≤ s → s ≤ sites_max → place_at (first_world c) s ≡ place_of (state_at places s)
  first_places places f zero a b = absurd (omega arith)
  first_places places f (suc k) a b = either (nat_lt (suc k) (c.sites + 1))
      (λ p. let l : suc k < c.sites + 1 = grind (arith, nat_tests) in first_there c (suc k) ((a, b), omega (arith, l)) ∙ sym (ap place_of (f.each k (omega arith)) ∙ ap (λ i. Some (first_state c i).place) (omega arith)))
      (λ p. let l : c.sites + 1 ≤ suc k = grind (arith, nat_tests) in let m : length places ≡ min c.sites sites_max = f.size in none_there (suc k) l ∙ sym (ap place_of (state_none places (suc k) k (omega arith) (omega arith))))

  first_scripts : (places : List PlaceState) → AreFirst c (min c.sites sites_max) places → (s : ℕ) (p : PlaceState) → state_at places s ≡ Some p → None ≡ p.armed
  first_scripts places f zero p e = absurd (cc)
  first_scripts places f (suc k) p e =
      let l : k < length places = slice_get_within places k p e in
      let m : length places ≡ min c.sites sites_max = f.size in
      let g : slice_get places k ≡ Some (first_state c (k + 1)) = f.each k (omega arith) in
      let h : Some p ≡ Some (first_state c (k + 1)) = sym e ∙ g in
      let i : first_state c (k + 1) ≡ p = cc in
      ap (λ (x : PlaceState). x.armed) i

  first_own : (places : List PlaceState) → AreFirst c (min c.sites sites_max) places → (s : ℕ) (p : PlaceState) → state_at places s ≡ Some p → IsSite c s p
  first_own places f zero p e = absurd (cc)
  first_own places f (suc k) p e =
      let l : k < length places = slice_get_within places k p e in
      let m : length places ≡ min c.sites sites_max = f.size in
      let g : slice_get places k ≡ Some (first_state c (k + 1)) = f.each k (omega arith) in
      let h : Some p ≡ Some (first_state c (k + 1)) = sym e ∙ g in
      let i : p ≡ first_state c (k + 1) = cc in
      record { site = ap (λ (x : PlaceState). x.site) i ∙ add-one k; config = ap (λ (x : PlaceState). x.config) i }

  pub first_shown : (x : WorldState) (writing : Writing) → x.config ≡ c → AreFirst c (min c.sites sites_max) x.places → x.circuits ≡ [] → x.book ≡ no_ledger writing → Shows c (nothing_taken writing) (first_world c) x
  first_shown x writing ec f ek eb = record {
    config = ec;
    writing = ap (λ (b : Ledger). b.writing) eb;
    book = subst (λ (b : Ledger). Keeps [] (first_world c) b) (sym eb) (record { written = refl; counts = refl; over = refl; whole = λ e. record { post = refl; text = refl } });
    sites = λ e. record { places = first_places x.places f; scripts = first_scripts x.places f; own = λ s p g. own_along c x.config s p ec (first_own x.places f s p g); table = tt; circuits = sym ek };
  }

get_last : (ps : List PlaceState) (p : PlaceState) (k : ℕ) → k ≡ length ps → slice_get (ps ++ p ∷ []) k ≡ Some p
get_last [] p zero e = refl
get_last [] p (suc k) e = absurd (omega arith)
get_last (q ∷ ps) p zero e = absurd (omega arith)
get_last (q ∷ ps) p (suc k) e = get_last ps p k (omega arith)

get_front : (ps qs : List PlaceState) (k : ℕ) → k < length ps → slice_get (ps ++ qs) k ≡ slice_get ps k
get_front [] qs k l = absurd (omega arith)
get_front (p ∷ ps) qs zero l = refl
get_front (p ∷ ps) qs (suc k) l = get_front ps qs k (omega arith)

-- one site more
pub first_more : (c : Config) (count s : ℕ) (ps qs : List PlaceState) (p : PlaceState) → AreFirst c count ps → s ≡ count + 1 → p ≡ first_state c s → qs ≡ ps ++ p ∷ [] → AreFirst c (count + 1) qs
first_more c count s ps qs p f es ep eq = subst (λ (xs : List PlaceState). AreFirst c (count + 1) xs) (sym eq) (record {
  size = let m : length ps ≡ count = f.size in omega (arith, length-append ps (p ∷ []));
  each = λ k l. let m : length ps ≡ count = f.size in split k count
      (λ e. get_last ps p k (omega arith) ∙ ap (λ x. Some x) (ep ∙ ap (first_state c) (let g : s ≡ k + 1 = omega arith in g)))
      (λ ne. get_front ps (p ∷ []) k (omega arith) ∙ f.each k (omega arith));
})
