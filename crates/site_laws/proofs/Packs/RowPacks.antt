-- What a synchronization site knows of a file, and what it decides on it, is as packs allow.
use Rattle.std.proofs.Common.{◌≡◌, ℕ, nat_lt, ◌==◌, Bool, true, false, cond, List, [], ◌∷◌, Option, Some, None, refl}
use Rattle.role_steps.proofs.of_plain_facts.Tests.{false_true}
use Rattle.locus_ids.specs.Sites.{both}
use Rattle.locus_ids.specs.declared.config.Config.{Config}
use Rattle.locus_ids.specs.declared.refusal.Refusal.TheVariants as refusal
use Rattle.locus_ids.specs.declared.ids.Kind.{Kind}
use Rattle.locus_ids.specs.declared.ids.Mode.{Mode}
use Rattle.locus_ids.specs.declared.ids.Mode.TheVariants as mode
use Rattle.locus_ids.specs.declared.ids.Stamp.{Stamp}
use Rattle.locus_ids.specs.declared.sites.Sites.{Sites}
use Rattle.locus_ids.specs.declared.refusal.Refusal.{Refusal}
use Rattle.wire_messages.specs.declared.body.Opening.{Opening}
use Rattle.wire_messages.specs.declared.body.Opening.TheVariants as how
use Rattle.role_steps.specs.Own.{Every}
use Rattle.role_steps.specs.Tables.{with_row}
use Rattle.role_steps.specs.Views.{Frame, pack_sites, members_of}
use Rattle.role_steps.specs.Versions.{row_ino, file_row, with_version, unknown_file, known_or, with_holder, holders_of, holding_of, version_of, rises_to, noted_at, noted_of, noted, chosen_site, holding_site, stamps_of, joined_vectors, is_below_some, not_below, with_kept, version_key}
use Rattle.role_steps.specs.Opens.{OpenRequest, Decision, Denies, Grants, mode_of, decision, file_decision, unless_refused, grant_on, make_at, make_decision, plain_at, plain_decision, resolve_from, is_stamp_among}
use Rattle.role_steps.specs.Versions.{kept}
use Rattle.role_steps.specs.declared.synchronizing.SyncTable.{SyncTable}
use Rattle.role_steps.specs.declared.synchronizing.FileRow.{FileRow}
use Rattle.role_steps.specs.declared.synchronizing.VersionRow.{VersionRow}
use Rattle.role_steps.specs.declared.synchronizing.Holding.{Holding}
use Rattle.the_run.proofs.InsideSync.{every_row, Found, row_found}
use Rattle.site_laws.specs.Packs.Packs.{HasPack, InPacks, LiesAt}
use Rattle.site_laws.specs.Packs.Making.{NotEmpty}
use Rattle.site_laws.specs.Packs.Packed.{Follows, HolderPacked, RowPacked, TablePacked}
use Rattle.site_laws.proofs.Packs.Sets.{set_in_packs, chosen, members_packed, holders_packed}

abbrev pub InTable : Frame → SyncTable → Type 0
InTable f t = TablePacked f.config f.me t

-- ---- rows of files ----

-- what a row has before a version of it is known
pub record IsPlaced (c : Config) (group : ℕ) (r : FileRow) : Type 0 where
  pub all : InPacks c group r.set
  pub holders : Every (HolderPacked c group) r.holders

pub known_packed : (c : Config) (group ino : ℕ) (k : Kind) (set : Sites) (o : Option FileRow) → InPacks c group set → Found (RowPacked c group) o → IsPlaced c group (known_or (unknown_file ino k set) o)
known_packed c group ino k set None h g = record { all = h; holders = tt }
known_packed c group ino k set (Some r) h g = record { all = g.all; holders = g.holders }

row_some : {A : Type 0} (key : A → ℕ) (x : A) (xs : List A) → NotEmpty (with_row key x xs)
row_some key x [] = tt
row_some key x (y ∷ ys) = put (nat_lt (key y) (key x)) (key y == key x)
  where
    put : (a b : Bool) → NotEmpty (elim a [ true ↦ y ∷ with_row key x ys | false ↦ elim b [ true ↦ x ∷ ys | false ↦ x ∷ y ∷ ys ] ])
    put true b = tt
    put false true = tt
    put false false = tt

below_some : (v : VersionRow) (vs : List VersionRow) → is_below_some v vs ≡ true → NotEmpty vs
below_some v [] e = absurd (false_true e)
below_some v (w ∷ ws) e = tt

kept_some : (v : VersionRow) (vs : List VersionRow) → NotEmpty (with_kept v vs)
kept_some v vs =
    (elim (is_below_some v vs) as (λ b. is_below_some v vs ≡ b → NotEmpty (elim b [ true ↦ vs | false ↦ with_row version_key v (not_below v vs) ])) [
      | true ↦ λ e. below_some v vs e
      | false ↦ λ e. row_some version_key v (not_below v vs)
    ]) refl

-- once a version of it is known, some version of it is kept
pub version_packed : (c : Config) (group : ℕ) (v : VersionRow) (r : FileRow) → IsPlaced c group r → RowPacked c group (with_version v r)
version_packed c group v r h = record { all = h.all; holders = h.holders; kept = kept_some v r.kept }

pub held_packed : (c : Config) (group site : ℕ) (stamp : Stamp) (r : FileRow) → HasPack c group site → RowPacked c group r → RowPacked c group (with_holder site stamp r)
held_packed c group site stamp r p h = record { all = h.all; holders = every_row (HolderPacked c group) holding_site (record { site = site; stamp = stamp }) r.holders p h.holders; kept = h.kept }

cond_packed : (c : Config) (group : ℕ) (b : Bool) (r q : FileRow) → RowPacked c group r → RowPacked c group q → RowPacked c group (cond b r q)
cond_packed c group true r q h g = h
cond_packed c group false r q h g = g

noted_at_packed : (c : Config) (group : ℕ) (r : FileRow) (site : ℕ) (v : VersionRow) (o : Option Holding) → HasPack c group site → RowPacked c group r → RowPacked c group (noted_at r site v o)
noted_at_packed c group r site v None p h = held_packed c group site v.stamp r p h
noted_at_packed c group r site v (Some x) p h = cond_packed c group (rises_to v (version_of r x.stamp)) (with_holder site v.stamp r) r (held_packed c group site v.stamp r p h) h

noted_of_packed : (c : Config) (group : ℕ) (r : FileRow) (site : ℕ) (o : Option VersionRow) → HasPack c group site → RowPacked c group r → RowPacked c group (noted_of r site o)
noted_of_packed c group r site None p h = h
noted_of_packed c group r site (Some v) p h = noted_at_packed c group r site v (holding_of r site) p h

pub noted_packed : (c : Config) (group site : ℕ) (stamp : Stamp) (r : FileRow) → HasPack c group site → RowPacked c group r → RowPacked c group (noted site stamp r)
noted_packed c group site stamp r p h = noted_of_packed c group r site (version_of r stamp) p h

pub row_there : (f : Frame) (t : SyncTable) (ino : ℕ) → InTable f t → Found (RowPacked f.config t.group) (file_row t ino)
row_there f t ino h = row_found (RowPacked f.config t.group) row_ino ino t.files h.files

-- ---- the decision ----

-- what is granted is granted where a pack is, and but for a make it follows versions
abbrev pub DecisionPacked : Config → ℕ → Mode → Decision → Type 0
DecisionPacked c group m (Denies why) = Unit {0}
DecisionPacked c group m (Grants ss stamp vector parents set k) = LiesAt c ss group set × Follows m parents

follows : (m : Mode) (parents : List Stamp) → NotEmpty parents → Follows m parents
follows mode.Make parents h = tt
follows mode.Read parents h = h
follows mode.Write parents h = h
follows mode.Resolve parents h = h
follows mode.Mend parents h = h

stamps_some : (vs : List VersionRow) → NotEmpty vs → NotEmpty (stamps_of vs)
stamps_some [] h = absurd h
stamps_some (v ∷ vs) h = tt

make_at_packed : (c : Config) (group : ℕ) (set : Sites) (k : Kind) (o : Option ℕ) → InPacks c group set → Found (HasPack c group) o → DecisionPacked c group mode.Make (make_at set k o)
make_at_packed c group set k None h g = tt
make_at_packed c group set k (Some ss) h g = (record { here = g; all = h }, tt)

make_packed : (f : Frame) (group us : ℕ) (set : Sites) (k : Kind) → DecisionPacked f.config group mode.Make (make_decision f group us set k)
make_packed f group us set k =
    (elim ((both set (pack_sites f.config group)).0 == set.0) as (λ b. ((both set (pack_sites f.config group)).0 == set.0) ≡ b → DecisionPacked f.config group mode.Make (cond b (make_at set k (chosen_site us f.me (members_of f.members set))) (Denies refusal.NoStorage))) [
      | true ↦ λ e. make_at_packed f.config group set k (chosen_site us f.me (members_of f.members set)) (set_in_packs f.config group set e) (chosen (HasPack f.config group) us f.me (members_of f.members set) (members_packed f.config group f.members set (set_in_packs f.config group set e)))
      | false ↦ λ e. tt
    ]) refl

plain_at_packed : (c : Config) (group : ℕ) (m : Mode) (r : FileRow) (v : VersionRow) (o : Option ℕ) → RowPacked c group r → Found (HasPack c group) o → DecisionPacked c group m (plain_at r v o)
plain_at_packed c group m r v None h g = tt
plain_at_packed c group m r v (Some ss) h g = (record { here = g; all = h.all }, follows m (v.stamp ∷ []) tt)

plain_packed : (f : Frame) (group us : ℕ) (m : Mode) (r : FileRow) (vs : List VersionRow) → RowPacked f.config group r → DecisionPacked f.config group m (plain_decision f us r vs)
plain_packed f group us m r [] h = tt
plain_packed f group us m r (v ∷ others) h = plain_at_packed f.config group m r v (chosen_site us f.me (holders_of r v.stamp)) h (chosen (HasPack f.config group) us f.me (holders_of r v.stamp) (holders_packed f.config group r v.stamp h.holders))

resolve_packed : (c : Config) (group : ℕ) (m : Mode) (r : FileRow) (vs : List VersionRow) (o : Option Holding) → NotEmpty vs → RowPacked c group r → Found (HolderPacked c group) o → DecisionPacked c group m (resolve_from r vs o)
resolve_packed c group m r vs None n h g = tt
resolve_packed c group m r vs (Some x) n h g =
    elim (is_stamp_among x.stamp (stamps_of vs)) as (λ b. DecisionPacked c group m (cond b (Grants x.site (Some x.stamp) (joined_vectors vs) (stamps_of vs) r.set r.kind) (Denies refusal.NoStorage))) [
      | true ↦ (record { here = g; all = h.all }, follows m (stamps_of vs) (stamps_some vs n))
      | false ↦ tt
    ]

grant_packed : (f : Frame) (group us : ℕ) (m : Mode) (r : FileRow) (vs : List VersionRow) (o : Opening) → HasPack f.config group f.me → NotEmpty vs → RowPacked f.config group r → DecisionPacked f.config group m (grant_on f us r vs o)
grant_packed f group us m r vs how.Read p n h = plain_packed f group us m r vs h
grant_packed f group us m r vs how.Write p n h = plain_packed f group us m r vs h
grant_packed f group us m r vs (how.Resolve site) p n h = resolve_packed f.config group m r vs (holding_of r site) n h (row_found (HolderPacked f.config group) holding_site site r.holders h.holders)
grant_packed f group us m r vs how.Mend p n h = (record { here = p; all = h.all }, follows m (stamps_of vs) (stamps_some vs n))
grant_packed f group us m r vs (how.Make set k) p n h = tt

unless_packed : (f : Frame) (group us : ℕ) (m : Mode) (o : OpenRequest) (known : Option FileRow) (why : Option Refusal) → HasPack f.config group f.me → Found (RowPacked f.config group) known → DecisionPacked f.config group m (unless_refused f us o known why)
unless_packed f group us m o known (Some why) p h = tt
unless_packed f group us m o None None p h = tt
unless_packed f group us m o (Some r) None p h = grant_packed f group us m r (kept (Some r)) o.how p h.kept h

file_decision_packed : (f : Frame) (t : SyncTable) (us : ℕ) (m : Mode) (o : OpenRequest) → InTable f t → DecisionPacked f.config t.group m (file_decision f t us o)
file_decision_packed f t us m o h = unless_packed f t.group us m o (file_row t o.file.ino) _ h.here (row_there f t o.file.ino h)

pub decision_packed : (f : Frame) (t : SyncTable) (us : ℕ) (o : OpenRequest) (x : Opening) → InTable f t → DecisionPacked f.config t.group (mode_of x) (decision f t us o x)
decision_packed f t us o (how.Make set k) h = make_packed f t.group us set k
decision_packed f t us o how.Read h = file_decision_packed f t us mode.Read o h
decision_packed f t us o how.Write h = file_decision_packed f t us mode.Write o h
decision_packed f t us o (how.Resolve site) h = file_decision_packed f t us mode.Resolve o h
decision_packed f t us o how.Mend h = file_decision_packed f t us mode.Mend o h
