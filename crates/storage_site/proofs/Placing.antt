-- An event at the instance of a place.
use Rattle.std.specs.Prelude.{cond}
use Rattle.std.proofs.Common.{◌≡◌, ℕ, ◌+◌, ◌==◌, Bool, true, false, List, [], ◌∷◌, map, set, get_or, Option, Some, refl, sym, ap, ◌∙◌, subst, arith}
use Rattle.std.proofs.lemmas.Bool.Decides.{nat_tests}
use Rattle.wire_messages.specs.Outboxes.{Outgoing}
use Rattle.role_steps.specs.Tables.{row, with_latest}
use Rattle.role_steps.specs.Views.{Store, Outcome, quiet}
use Rattle.role_steps.specs.Storage.{instance_key, is_open}
use Rattle.role_steps.specs.declared.copies.Step.{Step}
use Rattle.role_steps.specs.declared.instances.Instance.{Instance}
use Rattle.keyed_tables.specs.Places.{place_of}
use Rattle.keyed_tables.proofs.Placed.{found_latest, put_latest, keys_latest}
use Rattle.store_instances.specs.of_site_packs.Packs.{PacksState}
use Rattle.store_instances.specs.Stores.{Gives, IsRow, RowGives, StoreState, store_of, with_made}
use Rattle.storage_site.specs.Standing.{open_from}
use Rattle.storage_site.proofs.Standing.{open_ended, open_same, without_place}
use Rattle.store_instances.proofs.Latest.{nothing_more}

-- a row that is found has the key
row_has_key : {A : Type 0} (key : A → ℕ) (k : ℕ) (xs : List A) (x : A) → row key k xs ≡ Some x → key x ≡ k
row_has_key key k [] x h = absurd cc
row_has_key {A = A} key k (y ∷ ys) x h = (elim (key y == k) as (λ b. (key y == k) ≡ b → ◌≡◌ {A = Option A} (elim b [ true ↦ Some y | false ↦ row key k ys ]) (Some x) → key x ≡ k) [
  | true ↦ λ e f. (let is : y ≡ x = some_is f in let here : key y ≡ k = grind (arith, nat_tests) in ap key (sym is) ∙ here)
  | false ↦ λ e f. row_has_key key k ys x f
]) refl h where
  some_is : ◌≡◌ {A = Option A} (Some y) (Some x) → y ≡ x
  some_is f = cc

pub record Placed (k : ℕ) (xs : List Instance) (keys : List ℕ) (p : ℕ) (i new : Instance) : Type 0 where
  pub asked : row instance_key k xs ≡ Some i
  pub is_row : IsRow i xs
  pub after : with_latest instance_key new xs ≡ set xs p new
  pub keys_after : keys ≡ map instance_key (set xs p new)

pub placed_so : (k : ℕ) (xs : List Instance) (keys : List ℕ) (p : ℕ) (i new : Instance) → keys ≡ map instance_key xs → Some p ≡ place_of k keys → i ≡ get_or xs p i → instance_key new ≡ instance_key i → Placed k xs keys p i new
placed_so k xs keys p i new f e r same =
    let asked : row instance_key k xs ≡ Some i = found_latest instance_key k xs keys p i f e r in
    let its : instance_key i ≡ k = row_has_key instance_key k xs i asked in
    let there : k ≡ instance_key new = sym (same ∙ its) in
    record {
      asked = asked;
      is_row = ap (λ (n : ℕ). row instance_key n xs) its ∙ asked;
      after = put_latest instance_key new k xs keys p f there e;
      keys_after = keys_latest instance_key new k xs keys p f there e;
    }

-- the places of the open ones after it

pub stand_same : (xs : List Instance) (standing : List ℕ) (p : ℕ) (i new : Instance) → standing ≡ open_from 0 xs → i ≡ get_or xs p i → is_open new.stage ≡ is_open i.stage → standing ≡ open_from 0 (set xs p new)
stand_same xs standing p i new e is same = e ∙ sym (open_same 0 xs p i new is same)

pub stand_kept : (xs : List Instance) (standing now : List ℕ) (p : ℕ) (i new : Instance) (b : Bool) → standing ≡ open_from 0 xs → i ≡ get_or xs p i → (is_open new.stage ≡ true → is_open i.stage ≡ true) → b ≡ is_open new.stage
    → now ≡ cond b standing (without_place p standing) → now ≡ open_from 0 (set xs p new)
stand_kept xs standing now p i new true e is stays here kept = kept ∙ stand_same xs standing p i new e is (sym here ∙ sym (stays (sym here)))
stand_kept xs standing now p i new false e is stays here kept =
    kept ∙ ap (λ (qs : List ℕ). without_place p qs) e ∙ ap (λ (n : ℕ). without_place n (open_from 0 xs)) (from_start p) ∙ sym (open_ended 0 xs p new (sym here)) where
      from_start : (n : ℕ) → n ≡ 0 + n
      from_start n = omega arith

-- what is given at the row is given, and what it made is remembered
pub gives_placed : (o : Outcome Store) (r now : StoreState) (ys : List Instance) (made : Option Step) (new : Instance) (p : PacksState) (image : List ℕ) (before after : Outgoing) → with_latest instance_key new r.instances ≡ ys → RowGives o r made new p image before after
    → now ≡ record { instances = ys; steps = with_made new.file made r.steps } → Gives o (store_of now p image) before after
gives_placed o r now ys made new p image before after e g is =
    subst (λ (q : StoreState). Gives o (store_of q p image) before after)
    (ap (λ (zs : List Instance). record { instances = zs; steps = with_made new.file made r.steps }) e ∙ sym is) g

pub quiet_store : (s : Store) (out : Outgoing) → Gives (quiet s) s out out
quiet_store s out = record { view = refl; packets = nothing_more out.packets; records = nothing_more out.records }
