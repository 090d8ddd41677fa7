-- Sites of sets, and who is chosen among them.
use Rattle.std.proofs.Common.{◌≡◌, ◌<◌, ℕ, ◌-◌, ◌==◌, Bool, true, false, ◌&&◌, ◌||◌, cond, List, [], ◌∷◌, filter, map, min, Some, refl, sym, ◌∙◌, ap, subst, arith}
use Rattle.std.specs.Int.{bit_at}
use Rattle.std.proofs.lemmas.Bool.Decides.{nat_tests}
use Rattle.std.proofs.lemmas.Nat.Bits.{bit_at_and, bit_at-lt}
use Rattle.role_steps.proofs.of_plain_facts.Numbers.{equal}
use Rattle.role_steps.proofs.of_plain_facts.Tests.{both_true, false_true}
use Rattle.locus_ids.specs.Sites.{has, both}
use Rattle.locus_ids.specs.declared.sites.Sites.{Sites}
use Rattle.locus_ids.specs.declared.sites.Members.{Members}
use Rattle.locus_ids.specs.declared.ids.Stamp.{Stamp}
use Rattle.locus_ids.specs.declared.config.Config.{Config}
use Rattle.commit_graph.specs.Versions.{same_stamp}
use Rattle.role_steps.specs.Own.{Every}
use Rattle.role_steps.specs.Views.{pack_sites, members_of, is_member, first_site, all_sites}
use Rattle.role_steps.specs.Versions.{holding_site, holders_of, is_among, chosen_site}
use Rattle.role_steps.specs.declared.synchronizing.FileRow.{FileRow}
use Rattle.role_steps.specs.declared.synchronizing.Holding.{Holding}
use Rattle.the_run.proofs.InsideSync.{Found}
use Rattle.site_laws.specs.Packs.Packs.{HasPack, InPacks}
use Rattle.site_laws.specs.Packs.Packed.{HolderPacked}

-- ---- a set within another ----

one_of_both : (a b : ℕ) → a < 2 → b < 2 → (a == 1) ≡ true → min a b ≡ a → (b == 1) ≡ true
one_of_both a b p q h e = grind (arith, nat_tests)

-- the sites that a set has in common with another are in the other
pub within : (a b : Sites) → (both a b).0 ≡ a.0 → (site : ℕ) → has a site ≡ true → has b site ≡ true
within a b e site h =
    let k : ℕ = site - 1 in
    let m : min (bit_at a.0 k) (bit_at b.0 k) ≡ bit_at a.0 k = sym (bit_at_and a.0 b.0 k) ∙ ap (λ (n : ℕ). bit_at n k) e in
    one_of_both (bit_at a.0 k) (bit_at b.0 k) (bit_at-lt a.0 k) (bit_at-lt b.0 k) h m

pub set_in_packs : (c : Config) (group : ℕ) (set : Sites) → ((both set (pack_sites c group)).0 == set.0) ≡ true → InPacks c group set
set_in_packs c group set e = within set (pack_sites c group) (equal (both set (pack_sites c group)).0 set.0 e)

-- ---- who is chosen ----

pub every_filter : {A : Type 0} (P : A → Type 0) (test : A → Bool) (xs : List A) → Every P xs → Every P (filter test xs)
every_filter P test [] h = tt
every_filter P test (x ∷ xs) h = kept (test x) (every_filter P test xs h.1)
  where
    kept : (b : Bool) → Every P (filter test xs) → Every P (cond b (x ∷ filter test xs) (filter test xs))
    kept true g = (h.0, g)
    kept false g = g

among : (P : ℕ → Type 0) (site : ℕ) (xs : List ℕ) → Every P xs → is_among site xs ≡ true → P site
among P site [] h e = absurd (false_true e)
among P site (x ∷ xs) h e =
    (elim (x == site) as (λ b. (x == site) ≡ b → P site) [
      | true ↦ λ q. subst P (equal x site q) h.0
      | false ↦ λ q. among P site xs h.1 (later (x == site) (is_among site xs) q e)
    ]) refl
  where
    later : (a b : Bool) → a ≡ false → (a || b) ≡ true → b ≡ true
    later true b q g = absurd (cc)
    later false b q g = g

first_of : (P : ℕ → Type 0) (xs : List ℕ) → Every P xs → Found P (first_site xs)
first_of P [] h = tt
first_of P (x ∷ xs) h = h.0

pub chosen : (P : ℕ → Type 0) (us css : ℕ) (xs : List ℕ) → Every P xs → Found P (chosen_site us css xs)
chosen P us css xs h =
    (elim (is_among us xs) as (λ b. is_among us xs ≡ b → Found P (cond b (Some us) (cond (is_among css xs) (Some css) (first_site xs)))) [
      | true ↦ λ e. among P us xs h e
      | false ↦ λ e. (elim (is_among css xs) as (λ b. is_among css xs ≡ b → Found P (cond b (Some css) (first_site xs))) [
        | true ↦ λ g. among P css xs h g
        | false ↦ λ g. first_of P xs h
      ]) refl
    ]) refl

passes : (P : ℕ → Type 0) (test : ℕ → Bool) (xs : List ℕ) → ((s : ℕ) → test s ≡ true → P s) → Every P (filter test xs)
passes P test [] f = tt
passes P test (x ∷ xs) f =
    (elim (test x) as (λ b. test x ≡ b → Every P (cond b (x ∷ filter test xs) (filter test xs))) [
      | true ↦ λ e. (f x e, passes P test xs f)
      | false ↦ λ e. passes P test xs f
    ]) refl

pub passing : (P : ℕ → Type 0) (test : ℕ → Bool) (xs : List ℕ) → ((s : ℕ) → test s ≡ true → P s) → Every P (filter test xs)
passing P test xs f = passes P test xs f

pub members_packed : (c : Config) (group : ℕ) (members : Members) (set : Sites) → InPacks c group set → Every (HasPack c group) (members_of members set)
members_packed c group members set all = passing (HasPack c group) (λ s. has set s && is_member members s) all_sites (λ s e. all s (both_true (has set s) (is_member members s) e).0)

sites_of : (c : Config) (group : ℕ) (hs : List Holding) → Every (HolderPacked c group) hs → Every (HasPack c group) (map holding_site hs)
sites_of c group [] h = tt
sites_of c group (x ∷ xs) h = (h.0, sites_of c group xs h.1)

pub holders_packed : (c : Config) (group : ℕ) (r : FileRow) (stamp : Stamp) → Every (HolderPacked c group) r.holders → Every (HasPack c group) (holders_of r stamp)
holders_packed c group r stamp h = sites_of c group (filter (λ (x : Holding). same_stamp x.stamp stamp) r.holders) (every_filter (HolderPacked c group) (λ (x : Holding). same_stamp x.stamp stamp) r.holders h)

pub every_and : {A : Type 0} (P Q : A → Type 0) (xs : List A) → Every P xs → Every Q xs → Every (λ (x : A). P x × Q x) xs
every_and P Q [] h g = tt
every_and P Q (x ∷ xs) h g = ((h.0, g.0), every_and P Q xs h.1 g.1)
