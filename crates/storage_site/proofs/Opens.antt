-- An instance that begins.
use Rattle.std.proofs.Common.{◌≡◌, ℕ, ◌==◌, Bool, true, false, ◌&&◌, ◌||◌, List, [], ◌∷◌, ◌++◌, Option, Some, None, refl, sym, ap, ◌∙◌, subst}
use Rattle.std.specs.Prelude.{cond}
use Rattle.std.specs.List.{list_any, flat_map}
use Rattle.std.specs.Option.{option_map, is_some}
use Rattle.std.proofs.lemmas.List.Folds.{list_any-append}
use Rattle.role_steps.proofs.of_plain_facts.Tests.{and_false}
use Rattle.locus_ids.specs.declared.ids.FileId.{FileId}
use Rattle.locus_ids.specs.declared.ids.Stamp.{Stamp}
use Rattle.locus_ids.specs.declared.ids.Mode.{Mode}
use Rattle.locus_ids.specs.declared.ids.Mode.TheVariants as mode
use Rattle.wire_messages.specs.declared.body.ReportedCopy.{ReportedCopy}
use Rattle.wire_messages.specs.Outboxes.{Outgoing}
use Rattle.role_steps.specs.Tables.{row, with_latest}
use Rattle.role_steps.specs.Views.{Frame, Store, Outcome, Told, Begins, Reserves, serial_key}
use Rattle.role_steps.specs.Storage.{StoreRequest, base_of, begins, begun_instance, content_of, copy_of, instance_key, is_making, is_open, is_open_in, on_open_ss, on_open_ss_of, opened_packets, opens, opens_made, own_ino, reported}
use Rattle.role_steps.specs.declared.copies.FileCopy.{FileCopy}
use Rattle.role_steps.specs.declared.instances.Instance.{Instance}
use Rattle.store_instances.specs.of_site_packs.Packs.{PacksState, copy_at}
use Rattle.store_instances.specs.Stores.{Gives, StoreState, base_by, begun_with, is_make, store_of}
use Rattle.storage_site.specs.Serving.{made_ino, no_inode_packets}
use Rattle.site_frame.specs.Printed.{printed}
use Rattle.trace_book.specs.declared.record.Record.{Record}
use Rattle.store_instances.proofs.Latest.{nothing_more}
use Rattle.storage_site.proofs.Serves.{sends_store}

-- ---- numbers that are made ----

abbrev pub with_mode : Instance → Mode → Instance
with_mode i m = record i { mode = m }

both : (b : Bool) → (b && true) ≡ (b || false)
both true = refl
both false = refl

made : (n ino : ℕ) (a : Bool) → (a && ((n == ino) && true)) ≡ list_any (λ (one : ℕ). one == ino) (cond (a && true) (n ∷ []) [])
made n ino true = both (n == ino)
made n ino false = refl

unmade : (n ino : ℕ) (a : Bool) → (a && ((n == ino) && false)) ≡ list_any (λ (one : ℕ). one == ino) (cond (a && false) (n ∷ []) [])
unmade n ino true = and_false (n == ino)
unmade n ino false = refl

made_by : (group ino : ℕ) (i : Instance) (m : Mode) → is_making group ino (with_mode i m) ≡ list_any (λ (one : ℕ). one == ino) (made_ino group (with_mode i m))
made_by group ino i mode.Make = made i.file.ino ino (is_open_in group i)
made_by group ino i mode.Read = unmade i.file.ino ino (is_open_in group i)
made_by group ino i mode.Write = unmade i.file.ino ino (is_open_in group i)
made_by group ino i mode.Resolve = unmade i.file.ino ino (is_open_in group i)
made_by group ino i mode.Mend = unmade i.file.ino ino (is_open_in group i)

pub are_made : (group ino : ℕ) (xs : List Instance) → list_any (is_making group ino) xs ≡ list_any (λ (one : ℕ). one == ino) (flat_map (made_ino group) xs)
are_made group ino [] = refl
are_made group ino (x ∷ xs) =
    ap (λ (b : Bool). b || list_any (is_making group ino) xs) (made_by group ino x x.mode)
    ∙ ap (λ (b : Bool). list_any (λ (one : ℕ). one == ino) (made_ino group x) || b) (are_made group ino xs)
    ∙ sym (list_any-append (λ (one : ℕ). one == ino) (made_ino group x) (flat_map (made_ino group) xs))

-- ---- what an open gives ----

has_copy : (x : Option FileCopy) (m : Mode) (base : Stamp) → base_by m (is_some (option_map reported x)) base ≡ base_of m x base
has_copy None mode.Mend base = refl
has_copy (Some x) mode.Mend base = refl
has_copy x mode.Make base = refl
has_copy x mode.Read base = refl
has_copy x mode.Write base = refl
has_copy x mode.Resolve base = refl

module _ (f : Frame) (r : StoreRequest) (s : Store) where
  pub opens_copy : (m : Mode) → is_make m ≡ false → begins f (begun_instance r r.file (copy_of s r.file)) (Begins f.me f.epoch r.inst r.file ∷ []) s ≡ opens f r m s
  opens_copy mode.Make h = absurd cc
  opens_copy mode.Read h = refl
  opens_copy mode.Write h = refl
  opens_copy mode.Resolve h = refl
  opens_copy mode.Mend h = refl

  pub opens_make : (m : Mode) → is_make m ≡ true → opens_made f r (own_ino s r.file.group f.me) s ≡ opens f r m s
  opens_make mode.Make h = refl
  opens_make mode.Read h = absurd cc
  opens_make mode.Write h = absurd cc
  opens_make mode.Resolve h = absurd cc
  opens_make mode.Mend h = absurd cc

base_none : (m : Mode) (base : Stamp) → is_make m ≡ true → None ≡ base_of m None base
base_none mode.Make base h = refl
base_none mode.Read base h = absurd cc
base_none mode.Write base h = absurd cc
base_none mode.Resolve base h = absurd cc
base_none mode.Mend base h = absurd cc

instance_is : (r : StoreRequest) (x : Option FileCopy) (head : Option ReportedCopy) (base : Option Stamp) (content : List ℕ) → head ≡ option_map reported x → base ≡ base_by r.mode (is_some head) r.base → content ≡ content_of x → begun_with r r.file base content ≡ begun_instance r r.file x
instance_is r x head base content h b k =
    let there : base ≡ base_of r.mode x r.base = b ∙ (ap (λ (one : Option ReportedCopy). base_by r.mode (is_some one) r.base) h ∙ has_copy x r.mode r.base) in
    ap (λ (one : Option Stamp). begun_with r r.file one content) there ∙ ap (λ (bytes : List ℕ). begun_with r r.file (base_of r.mode x r.base) bytes) k

module _ (f : Frame) (r : StoreRequest) (xs ys : StoreState) (p : PacksState) (image now : List ℕ) (before after : Outgoing) where
  abbrev pub s : Store
  s = store_of xs p image

  begins_so : (i new : Instance) (told : List Told) → printed told ≡ [] → new ≡ i → ys ≡ record xs { instances = with_latest instance_key new xs.instances } → now ≡ image → after.packets ≡ before.packets ++ opened_packets f new → after.records ≡ before.records → Gives (begins f i told s) (store_of ys p now) before after
  begins_so i new told none e put seen sent said = record {
    view = ap (λ (m : List ℕ). store_of ys p m) seen ∙ ap (λ (zs : StoreState). store_of zs p image) (put ∙ ap (λ (j : Instance). record xs { instances = with_latest instance_key j xs.instances }) e);
    packets = sent ∙ ap (λ (j : Instance). before.packets ++ opened_packets f j) e;
    records = said ∙ (nothing_more before.records ∙ ap (λ (rs : List Record). before.records ++ rs) (sym none));
  }

  pub copy_opened : (new : Instance) (head : Option ReportedCopy) (base : Option Stamp) (content : List ℕ) → is_make r.mode ≡ false → head ≡ option_map reported (copy_at p image r.file) → base ≡ base_by r.mode (is_some head) r.base → content ≡ content_of (copy_at p image r.file)
      → new ≡ begun_with r r.file base content → ys ≡ record xs { instances = with_latest instance_key new xs.instances } → now ≡ image → after.packets ≡ before.packets ++ opened_packets f new → after.records ≡ before.records → Gives (opens f r r.mode s) (store_of ys p now) before after
  copy_opened new head base content stays h b k e put seen sent said =
      subst (λ (o : Outcome Store). Gives o (store_of ys p now) before after) (opens_copy f r s r.mode stays)
      (begins_so (begun_instance r r.file (copy_at p image r.file)) new (Begins f.me f.epoch r.inst r.file ∷ []) refl (e ∙ instance_is r (copy_at p image r.file) head base content h b k) put seen sent said)

  pub made_opened : (new : Instance) (ino : ℕ) → is_make r.mode ≡ true → Some ino ≡ own_ino s r.file.group f.me → new ≡ begun_with r (record { group = r.file.group; ino = ino }) None [] → ys ≡ record xs { instances = with_latest instance_key new xs.instances } → now ≡ image
      → after.packets ≡ before.packets ++ opened_packets f new → after.records ≡ before.records → Gives (opens f r r.mode s) (store_of ys p now) before after
  made_opened new ino make own e put seen sent said =
      let file : FileId = record { group = r.file.group; ino = ino } in
      subst (λ (o : Outcome Store). Gives o (store_of ys p now) before after) (ap (λ (o : Option ℕ). opens_made f r o s) own ∙ opens_make f r s r.mode make)
      (begins_so (begun_instance r file None) new (Begins f.me f.epoch r.inst file ∷ Reserves f.me f.epoch r.inst file ∷ []) refl (e ∙ ap (λ (one : Option Stamp). begun_with r file one []) (base_none r.mode r.base make)) put seen sent said)

  pub none_left : is_make r.mode ≡ true → None ≡ own_ino s r.file.group f.me → ys ≡ xs → now ≡ image → after.packets ≡ before.packets ++ no_inode_packets f r → after.records ≡ before.records → Gives (opens f r r.mode s) (store_of ys p now) before after
  none_left make own same seen sent said =
      subst (λ (o : Outcome Store). Gives o (store_of ys p now) before after) (ap (λ (o : Option ℕ). opens_made f r o s) own ∙ opens_make f r s r.mode make)
      (sends_store (no_inode_packets f r) s (store_of ys p now) before after (ap (λ (m : List ℕ). store_of ys p m) seen ∙ ap (λ (zs : StoreState). store_of zs p image) same) sent said)

  pub new_opened : row instance_key (serial_key r.inst) xs.instances ≡ None → Gives (opens f r r.mode s) (store_of ys p now) before after → Gives (on_open_ss f r s) (store_of ys p now) before after
  new_opened absent g = subst (λ (o : Option Instance). Gives (on_open_ss_of f r o s) (store_of ys p now) before after) (sym absent) g

  pub again_opened : (i : Instance) → row instance_key (serial_key r.inst) xs.instances ≡ Some i → ys ≡ xs → now ≡ image → after.packets ≡ before.packets ++ cond (is_open i.stage) (opened_packets f i) [] → after.records ≡ before.records → Gives (on_open_ss f r s) (store_of ys p now) before after
  again_opened i there same seen sent said =
      subst (λ (o : Option Instance). Gives (on_open_ss_of f r o s) (store_of ys p now) before after) (sym there)
      (sends_store (cond (is_open i.stage) (opened_packets f i) []) s (store_of ys p now) before after (ap (λ (m : List ℕ). store_of ys p m) seen ∙ ap (λ (zs : StoreState). store_of zs p image) same) sent said)

-- ---- a row of a new key ----

some_none : {A : Type 0} {B : Type 0} (y : A) → ◌≡◌ {A = Option A} (Some y) None → B
some_none y e = absurd cc

pub latest_new : {A : Type 0} (key : A → ℕ) (x : A) (xs : List A) → row key (key x) xs ≡ None → with_latest key x xs ≡ xs ++ x ∷ []
latest_new key x [] h = refl
latest_new {A = A} key x (y ∷ ys) h = (elim (key y == key x) as (λ b. ◌≡◌ {A = Option A} (elim b [ true ↦ Some y | false ↦ row key (key x) ys ]) None → ◌≡◌ {A = List A} (elim b [ true ↦ x ∷ ys | false ↦ y ∷ with_latest key x ys ]) (y ∷ (ys ++ x ∷ []))) [
  | true ↦ λ f. some_none y f
  | false ↦ λ f. ap (λ zs. y ∷ zs) (latest_new key x ys f)
]) h
