-- What the synchronization site keeps and sends of versions is as it was told.
use Rattle.std.proofs.Common.{◌≡◌, ℕ, zero, suc, ◌==◌, max, Bool, true, false, cond, List, [], ◌∷◌, ◌++◌, filter, replicate, Option, Some, None, refl, sym, ◌∙◌, subst, inl, arith}
use Rattle.std.proofs.lemmas.Bool.Decides.{nat_tests}
use Rattle.std.specs.List.{flat_map}
use Rattle.run_laws.proofs.of_plain_facts.Numbers.{equal}
use Rattle.locus_ids.specs.declared.ids.EpochId.{EpochId}
use Rattle.locus_ids.specs.declared.ids.FileId.{FileId}
use Rattle.locus_ids.specs.declared.ids.Kind.{Kind}
use Rattle.locus_ids.specs.declared.sites.Sites.{Sites}
use Rattle.locus_ids.specs.declared.ids.Mode.{Mode}
use Rattle.locus_ids.specs.declared.ids.Mode.TheVariants as mode
use Rattle.locus_ids.specs.declared.ids.Serial.{Serial}
use Rattle.locus_ids.specs.declared.ids.Stamp.{Stamp}
use Rattle.locus_ids.specs.declared.refusal.Refusal.{Refusal}
use Rattle.locus_ids.specs.declared.refusal.Refusal.TheVariants as refusal
use Rattle.locus_ids.specs.Sizes.{sites_max}
use Rattle.version_vector.specs.Counters.{part}
use Rattle.version_vector.proofs.Counting.{part-joined}
use Rattle.role_steps.specs.of_dir_format.Entries.{nothing_seen}
use Rattle.trace_book.specs.declared.operation.What.{What}
use Rattle.trace_book.specs.declared.operation.What.TheVariants as what
use Rattle.run_laws.specs.of_wire_messages.declared.body.Opening.{Opening}
use Rattle.run_laws.specs.of_wire_messages.declared.body.Opening.TheVariants as how
use Rattle.run_laws.specs.of_wire_messages.declared.body.OpenedAs.{OpenedAs}
use Rattle.run_laws.specs.of_wire_messages.declared.body.OpenedAs.TheVariants as opened
use Rattle.run_laws.specs.of_role_steps.Own.{Every}
use Rattle.run_laws.specs.of_role_steps.Tables.{row, with_row, with_latest}
use Rattle.run_laws.specs.of_role_steps.Views.{Frame, Told, Outcome, quiet, sends, and_then, packet, process_key, serial_key}
use Rattle.run_laws.specs.of_role_steps.Versions.{version_key, row_ino, file_row, with_file, with_version, with_kept, not_below, is_below_some, kept, stamps_of, joined_vectors, unknown_file, known_or, with_holder, holders_of, holding_of, version_of, rises_to, noted_at, noted_of, noted, chosen_site}
use Rattle.run_laws.specs.of_role_steps.Notices.{lagging, notice, notices_of, notices_by, file_notices, notices, row_notices}
use Rattle.run_laws.specs.of_role_steps.Opens.{OpenRequest, Decision, Denies, Grants, mode_of, decision, file_decision, unless_refused, grant_on, plain_at, plain_decision, resolve_from, is_stamp_among, make_at, refuse_record, decides, denied_row, asked_row, granted_row, numbered_file, granted_at_once, granted_at_last, repeats_open, on_open_of, takes_open, open_row, open_key, with_open, answers_open, by_stage, on_opened_of, on_opened}
use Rattle.run_laws.specs.of_role_steps.Looks.{LookRequest, Service, Denies as Unserved, Serves, service, letter, serving_letter, last_look, is_look_before, is_same_look, new_look, after_last, takes_look, look_key}
use Rattle.run_laws.specs.of_role_steps.Reports.{sync_repeats}
use Rattle.run_laws.specs.of_role_steps.declared.synchronizing.SyncTable.{SyncTable}
use Rattle.run_laws.specs.of_role_steps.declared.synchronizing.FileRow.{FileRow}
use Rattle.run_laws.specs.of_role_steps.declared.synchronizing.VersionRow.{VersionRow}
use Rattle.run_laws.specs.of_role_steps.declared.synchronizing.Holding.{Holding}
use Rattle.run_laws.specs.of_role_steps.declared.synchronizing.OpenRow.{OpenRow}
use Rattle.run_laws.specs.of_role_steps.declared.synchronizing.OpenStage.{OpenStage}
use Rattle.run_laws.specs.of_role_steps.declared.synchronizing.OpenStage.TheVariants as stage
use Rattle.run_laws.specs.of_role_steps.declared.synchronizing.LastLook.{LastLook}
use Rattle.run_laws.proofs.of_role_steps.Sending.{every_append, every_cond, every_map}
use Rattle.run_laws.proofs.of_the_run.InsideSync.{every_row, Found, row_found}
use Rattle.site_laws.specs.Vectors.Written.{CountsNone, JoinsAll, WrittenAs}
use Rattle.site_laws.specs.Vectors.Facts.{file_in, BaseFact, PacketFact, NoFact, VersionFact, RowFact, GrantFact, OpenFact, LookFact, TableFact, onto}
use Rattle.site_laws.proofs.Vectors.Facts.{base_later, one_later, onto_later, onto_append, packets_later, table_later, no_fact}

-- ---- lists ----

-- what is found under a key has it, and the property
abbrev pub FoundAt : {A : Type 0} → (A → Type 0) → (A → ℕ) → ℕ → Option A → Type 0
FoundAt P key k None = Unit {0}
FoundAt P key k (Some x) = (key x ≡ k) × P x

pub row_at : {A : Type 0} (P : A → Type 0) (key : A → ℕ) (k : ℕ) (xs : List A) → Every P xs → FoundAt P key k (row key k xs)
row_at P key k [] h = tt
row_at P key k (x ∷ xs) h = (elim (key x == k) as (λ b. (key x == k) ≡ b → FoundAt P key k (elim b [ true ↦ Some x | false ↦ row key k xs ])) [ true ↦ λ e. (equal (key x) k e, h.0) | false ↦ λ e. row_at P key k xs h.1 ]) refl

pub every_latest : {A : Type 0} (P : A → Type 0) (key : A → ℕ) (x : A) (xs : List A) → P x → Every P xs → Every P (with_latest key x xs)
every_latest P key x [] p h = (p, tt)
every_latest P key x (y ∷ ys) p h = elim (key y == key x) as (λ b. Every P (elim b [ true ↦ x ∷ ys | false ↦ y ∷ with_latest key x ys ])) [ true ↦ (p, h.1) | false ↦ (h.0, every_latest P key x ys p h.1) ]

cons_if : {A : Type 0} (P : A → Type 0) (b : Bool) (x : A) (xs : List A) → P x → Every P xs → Every P (cond b (x ∷ xs) xs)
cons_if P true x xs p h = (p, h)
cons_if P false x xs p h = h

every_filter : {A : Type 0} (P : A → Type 0) (test : A → Bool) (xs : List A) → Every P xs → Every P (filter test xs)
every_filter P test [] h = tt
every_filter P test (x ∷ xs) h = cons_if P (test x) x (filter test xs) h.0 (every_filter P test xs h.1)

-- ---- counters ----

zero_counts : (n t : ℕ) → part (replicate n 0) t ≡ 0
zero_counts zero t = refl
zero_counts (suc n) zero = refl
zero_counts (suc n) (suc t) = zero_counts n t

pub seen_none : CountsNone nothing_seen
seen_none t = zero_counts sites_max t

max_none : (a b : ℕ) → b ≡ 0 → a ≡ max a b
max_none a b e = grind (arith, nat_tests)

-- the join of one vector is that vector
pub joins_one : (W : Stamp → List ℕ → Type 0) (stamp : Stamp) (vector : List ℕ) → W stamp vector → JoinsAll W (stamp ∷ []) vector
joins_one W stamp vector h = (vector, nothing_seen, h, seen_none, λ t. max_none (part vector t) (part nothing_seen t) (seen_none t))

joins_rows : (past : List Told) (file : FileId) (vs : List VersionRow) → Every (VersionFact past file) vs → JoinsAll (WrittenAs past file) (stamps_of vs) (joined_vectors vs)
joins_rows past file [] h = seen_none
joins_rows past file (v ∷ vs) h = (v.vector, joined_vectors vs, h.0, joins_rows past file vs h.1, λ t. part-joined v.vector (joined_vectors vs) t)

pub file_eq : (f : FileId) (group ino : ℕ) → f.group ≡ group → f.ino ≡ ino → f ≡ file_in group ino
file_eq f group ino e g = λ i. record { group = e i; ino = g i }

-- ---- outcomes ----

abbrev pub TableFine : List Told → EpochId → Outcome SyncTable → Type 0
TableFine past e o = TableFact (onto o.told past) e o.view × Every (PacketFact (onto o.told past)) o.sent

pub table_then : (past : List Told) (e : EpochId) (o : Outcome SyncTable) (g : SyncTable → Outcome SyncTable) → TableFine past e o → TableFine (onto o.told past) e (g o.view) → TableFine past e (and_then o g)
table_then past e o g h k =
    subst (λ (now : List Told). TableFact now e (g o.view).view × Every (PacketFact now) (o.sent ++ (g o.view).sent)) (sym (onto_append o.told (g o.view).told past))
    (k.0, every_append (PacketFact (onto (g o.view).told (onto o.told past))) o.sent (g o.view).sent (packets_later (onto o.told past) (onto (g o.view).told (onto o.told past)) (onto_later (g o.view).told (onto o.told past)) o.sent h.1) k.1)

-- ---- rows of files ----

kept_fact : (past : List Told) (file : FileId) (v : VersionRow) (others : List VersionRow) → VersionFact past file v → Every (VersionFact past file) others → Every (VersionFact past file) (with_kept v others)
kept_fact past file v others h g = elim (is_below_some v others) as (λ b. Every (VersionFact past file) (elim b [ true ↦ others | false ↦ with_row version_key v (not_below v others) ])) [
  | true ↦ g
  | false ↦ every_row (VersionFact past file) version_key v (not_below v others) h (every_filter (VersionFact past file) _ others g)
]

pub version_row : (past : List Told) (group : ℕ) (v : VersionRow) (r : FileRow) → VersionFact past (file_in group r.ino) v → RowFact past group r → RowFact past group (with_version v r)
version_row past group v r h g = record { versions = every_row (VersionFact past (file_in group r.ino)) version_key v r.versions h g.versions; kept = kept_fact past (file_in group r.ino) v r.kept h g.kept }

cond_row : (past : List Told) (group : ℕ) (b : Bool) (r q : FileRow) → RowFact past group r → RowFact past group q → RowFact past group (cond b r q)
cond_row past group true r q h g = h
cond_row past group false r q h g = g

noted_at_row : (past : List Told) (group : ℕ) (r : FileRow) (site : ℕ) (v : VersionRow) (o : Option Holding) → RowFact past group r → RowFact past group (noted_at r site v o)
noted_at_row past group r site v None h = record { versions = h.versions; kept = h.kept }
noted_at_row past group r site v (Some x) h = cond_row past group (rises_to v (version_of r x.stamp)) (with_holder site v.stamp r) r (record { versions = h.versions; kept = h.kept }) h

noted_of_row : (past : List Told) (group : ℕ) (r : FileRow) (site : ℕ) (o : Option VersionRow) → RowFact past group r → RowFact past group (noted_of r site o)
noted_of_row past group r site None h = h
noted_of_row past group r site (Some v) h = noted_at_row past group r site v (holding_of r site) h

pub noted_row : (past : List Told) (group site : ℕ) (stamp : Stamp) (r : FileRow) → RowFact past group r → RowFact past group (noted site stamp r)
noted_row past group site stamp r h = noted_of_row past group r site (version_of r stamp) h

pub known_row : (past : List Told) (group ino : ℕ) (k : Kind) (set : Sites) (o : Option FileRow) → FoundAt (RowFact past group) row_ino ino o → ((known_or (unknown_file ino k set) o).ino ≡ ino) × RowFact past group (known_or (unknown_file ino k set) o)
known_row past group ino k set None h = (refl, record { versions = tt; kept = tt })
known_row past group ino k set (Some r) h = h

pub table_row : (past : List Told) (e : EpochId) (t : SyncTable) (r : FileRow) → RowFact past t.group r → TableFact past e t → TableFact past e (with_file r t)
table_row past e t r h g = record { files = every_row (RowFact past t.group) row_ino r t.files h g.files; opens = g.opens; looks = g.looks; early = g.early }

pub table_open : (past : List Told) (e : EpochId) (t : SyncTable) (r : OpenRow) → OpenFact past e t.group r → TableFact past e t → TableFact past e (with_open r t)
table_open past e t r h g = record { files = g.files; opens = every_latest (OpenFact past e t.group) open_key r t.opens h g.opens; looks = g.looks; early = g.early }

-- ---- notices ----

notices_of_fact : (past : List Told) (f : Frame) (group : ℕ) (r : FileRow) (v : VersionRow) (o : Option ℕ) → VersionFact past (file_in group r.ino) v → Every (PacketFact past) (notices_of f group r v o)
notices_of_fact past f group r v None h = tt
notices_of_fact past f group r v (Some holder) h = every_map (PacketFact past) (notice f group r v holder) (lagging f r (holders_of r v.stamp)) (λ s. h)

notices_by_fact : (past : List Told) (f : Frame) (group : ℕ) (r : FileRow) (vs : List VersionRow) → Every (VersionFact past (file_in group r.ino)) vs → Every (PacketFact past) (notices_by f group r vs)
notices_by_fact past f group r [] h = tt
notices_by_fact past f group r (v ∷ []) h = notices_of_fact past f group r v (chosen_site f.me f.me (holders_of r v.stamp)) h.0
notices_by_fact past f group r (v ∷ w ∷ others) h = tt

pub every_flat : {A B : Type 0} (P : A → Type 0) (Q : B → Type 0) (g : A → List B) (xs : List A) → ((x : A) → P x → Every Q (g x)) → Every P xs → Every Q (flat_map g xs)
every_flat P Q g [] f h = tt
every_flat P Q g (x ∷ xs) f h = every_append Q (g x) (flat_map g xs) (f x h.0) (every_flat P Q g xs f h.1)

pub notices_fact : (past : List Told) (f : Frame) (e : EpochId) (t : SyncTable) → TableFact past e t → Every (PacketFact past) (notices f t)
notices_fact past f e t h = every_flat (RowFact past t.group) (PacketFact past) (file_notices f t.group) t.files (λ r k. notices_by_fact past f t.group r r.kept k.kept) h.files

pub row_notices_fact : (past : List Told) (f : Frame) (group : ℕ) (o : Option FileRow) → Found (RowFact past group) o → Every (PacketFact past) (row_notices f group o)
row_notices_fact past f group None h = tt
row_notices_fact past f group (Some r) h = notices_by_fact past f group r r.kept h.kept

pub sync_repeats_fact : (past : List Told) (f : Frame) (e : EpochId) (t : SyncTable) → TableFact past e t → Every (PacketFact past) (sync_repeats f t)
sync_repeats_fact past f e t h = every_cond (PacketFact past) t.started (notices f t) [] (notices_fact past f e t h) tt

-- ---- the decision ----

abbrev DecisionFact : List Told → FileId → Mode → Decision → Type 0
DecisionFact past file m (Denies why) = Unit {0}
DecisionFact past file m (Grants ss stamp vector parents set k) = BaseFact past file m parents vector

cond_decision : (past : List Told) (file : FileId) (m : Mode) (b : Bool) (d g : Decision) → DecisionFact past file m d → DecisionFact past file m g → DecisionFact past file m (cond b d g)
cond_decision past file m true d g h k = h
cond_decision past file m false d g h k = k

make_at_fact : (past : List Told) (file : FileId) (set : Sites) (k : Kind) (o : Option ℕ) → DecisionFact past file mode.Make (make_at set k o)
make_at_fact past file set k None = tt
make_at_fact past file set k (Some ss) = (refl, seen_none)

-- a base that isn't a make's
abbrev Plainly : Mode → Type 0
Plainly mode.Make = ⊥
Plainly _ = Unit {0}

plain_base : (past : List Told) (file : FileId) (m : Mode) (ps : List Stamp) (vector : List ℕ) → Plainly m → JoinsAll (WrittenAs past file) ps vector → BaseFact past file m ps vector
plain_base past file mode.Make ps vector p h = absurd p
plain_base past file mode.Read ps vector p h = h
plain_base past file mode.Write ps vector p h = h
plain_base past file mode.Resolve ps vector p h = h
plain_base past file mode.Mend ps vector p h = h

plain_at_fact : (past : List Told) (file : FileId) (m : Mode) (r : FileRow) (v : VersionRow) (o : Option ℕ) → Plainly m → VersionFact past file v → DecisionFact past file m (plain_at r v o)
plain_at_fact past file m r v None p h = tt
plain_at_fact past file m r v (Some ss) p h = plain_base past file m (v.stamp ∷ []) v.vector p (joins_one (WrittenAs past file) v.stamp v.vector h)

plain_fact : (past : List Told) (file : FileId) (m : Mode) (f : Frame) (us : ℕ) (r : FileRow) (vs : List VersionRow) → Plainly m → Every (VersionFact past file) vs → DecisionFact past file m (plain_decision f us r vs)
plain_fact past file m f us r [] p h = tt
plain_fact past file m f us r (v ∷ others) p h = plain_at_fact past file m r v (chosen_site us f.me (holders_of r v.stamp)) p h.0

resolve_fact : (past : List Told) (file : FileId) (r : FileRow) (vs : List VersionRow) (o : Option Holding) → Every (VersionFact past file) vs → DecisionFact past file mode.Resolve (resolve_from r vs o)
resolve_fact past file r vs None h = tt
resolve_fact past file r vs (Some x) h = cond_decision past file mode.Resolve (is_stamp_among x.stamp (stamps_of vs)) (Grants x.site (Some x.stamp) (joined_vectors vs) (stamps_of vs) r.set r.kind) (Denies refusal.NoStorage) (joins_rows past file vs h) tt

grant_fact : (past : List Told) (file : FileId) (f : Frame) (us : ℕ) (r : FileRow) (vs : List VersionRow) (o : Opening) → Every (VersionFact past file) vs → DecisionFact past file (mode_of o) (grant_on f us r vs o)
grant_fact past file f us r vs how.Read h = plain_fact past file mode.Read f us r vs tt h
grant_fact past file f us r vs how.Write h = plain_fact past file mode.Write f us r vs tt h
grant_fact past file f us r vs (how.Resolve site) h = resolve_fact past file r vs (holding_of r site) h
grant_fact past file f us r vs how.Mend h = joins_rows past file vs h
grant_fact past file f us r vs (how.Make set k) h = tt

unless_fact : (past : List Told) (group : ℕ) (f : Frame) (us : ℕ) (o : OpenRequest) (known : Option FileRow) (why : Option Refusal) → o.file.group ≡ group → FoundAt (RowFact past group) row_ino o.file.ino known → DecisionFact past o.file (mode_of o.how) (unless_refused f us o known why)
unless_fact past group f us o known (Some why) g h = tt
unless_fact past group f us o None None g h = tt
unless_fact past group f us o (Some r) None g h = grant_fact past o.file f us r (kept (Some r)) o.how (subst (λ (file : FileId). Every (VersionFact past file) r.kept) (sym (file_eq o.file group r.ino g (sym h.0))) h.1.kept)

file_decision_fact : (past : List Told) (e : EpochId) (f : Frame) (t : SyncTable) (us : ℕ) (o : OpenRequest) → o.file.group ≡ t.group → TableFact past e t → DecisionFact past o.file (mode_of o.how) (file_decision f t us o)
file_decision_fact past e f t us o g h = unless_fact past t.group f us o (file_row t o.file.ino) _ g (row_at (RowFact past t.group) row_ino o.file.ino t.files h.files)

decision_fact : (past : List Told) (e : EpochId) (f : Frame) (t : SyncTable) (us : ℕ) (o : OpenRequest) (x : Opening) → o.how ≡ x → o.file.group ≡ t.group → TableFact past e t → DecisionFact past o.file (mode_of x) (decision f t us o x)
decision_fact past e f t us o (how.Make set k) q g h = cond_decision past o.file mode.Make _ (make_at set k _) (Denies refusal.NoStorage) (make_at_fact past o.file set k _) tt
decision_fact past e f t us o how.Read q g h = subst (λ (y : Opening). DecisionFact past o.file (mode_of y) (file_decision f t us o)) q (file_decision_fact past e f t us o g h)
decision_fact past e f t us o how.Write q g h = subst (λ (y : Opening). DecisionFact past o.file (mode_of y) (file_decision f t us o)) q (file_decision_fact past e f t us o g h)
decision_fact past e f t us o (how.Resolve site) q g h = subst (λ (y : Opening). DecisionFact past o.file (mode_of y) (file_decision f t us o)) q (file_decision_fact past e f t us o g h)
decision_fact past e f t us o how.Mend q g h = subst (λ (y : Opening). DecisionFact past o.file (mode_of y) (file_decision f t us o)) q (file_decision_fact past e f t us o g h)

-- ---- opens ----

refused_grant : (past : List Told) (e : EpochId) (r : OpenRow) (m : Mode) (why : Refusal) → GrantFact past e r m (stage.Refused why)
refused_grant past e r mode.Make why = tt
refused_grant past e r mode.Read why = tt
refused_grant past e r mode.Write why = tt
refused_grant past e r mode.Resolve why = tt
refused_grant past e r mode.Mend why = tt

pub ended_grant : (past : List Told) (e : EpochId) (r : OpenRow) (m : Mode) → GrantFact past e r m stage.Ended
ended_grant past e r mode.Make = tt
ended_grant past e r mode.Read = tt
ended_grant past e r mode.Write = tt
ended_grant past e r mode.Resolve = tt
ended_grant past e r mode.Mend = tt

-- the grant is told at once, but for a make
once_grant : (past : List Told) (f : Frame) (r : OpenRow) (m : Mode) → GrantFact (onto (granted_at_once f r m) past) f.epoch r m stage.Asked
once_grant past f r mode.Make = tt
once_grant past f r mode.Read = inl (refl, refl, refl)
once_grant past f r mode.Write = inl (refl, refl, refl)
once_grant past f r mode.Resolve = inl (refl, refl, refl)
once_grant past f r mode.Mend = inl (refl, refl, refl)

empty_base : (past : List Told) (file : FileId) (m : Mode) → BaseFact past file m [] nothing_seen
empty_base past file mode.Make = (refl, seen_none)
empty_base past file mode.Read = seen_none
empty_base past file mode.Write = seen_none
empty_base past file mode.Resolve = seen_none
empty_base past file mode.Mend = seen_none

base_after : (past : List Told) (told : List Told) (file : FileId) (m : Mode) (ps : List Stamp) (vector : List ℕ) → BaseFact past file m ps vector → BaseFact (onto told past) file m ps vector
base_after past told file m ps vector h = base_later past (onto told past) (onto_later told past) file m ps vector h

decides_fact : (past : List Told) (f : Frame) (t : SyncTable) (us : ℕ) (o : OpenRequest) (d : Decision) → o.file.group ≡ t.group → DecisionFact past o.file (mode_of o.how) d → TableFact past f.epoch t → TableFine past f.epoch (decides f t us o d)
decides_fact past f t us o (Denies why) g d h =
    let r : OpenRow = denied_row us o why in
    let now : List Told = refuse_record f r why ∷ past in
    (table_open now f.epoch t r (record { group_is = g; base = empty_base now o.file (mode_of o.how); granted = refused_grant now f.epoch r (mode_of o.how) why }) (table_later past now (one_later _ past) f.epoch t h), (tt, tt))
decides_fact past f t us o (Grants ss stamp vector parents set k) g d h =
    let r : OpenRow = asked_row us o ss stamp vector parents set k in
    let told : List Told = granted_at_once f r r.mode in
    let base : BaseFact (onto told past) o.file (mode_of o.how) parents vector = base_after past told o.file (mode_of o.how) parents vector d in
    (table_open (onto told past) f.epoch t r (record { group_is = g; base = base; granted = once_grant past f r r.mode }) (table_later past (onto told past) (onto_later told past) f.epoch t h), (base, tt))

repeats_open_fact : (past : List Told) (f : Frame) (group : ℕ) (r : OpenRow) (s : OpenStage) → OpenFact past f.epoch group r → Every (PacketFact past) (repeats_open f r s)
repeats_open_fact past f group r stage.Asked h = (h.base, tt)
repeats_open_fact past f group r stage.Granted h = (tt, tt)
repeats_open_fact past f group r (stage.Refused why) h = (tt, tt)
repeats_open_fact past f group r stage.Ended h = tt

on_open_of_fact : (past : List Told) (f : Frame) (t : SyncTable) (us : ℕ) (o : OpenRequest) (r : Option OpenRow) → o.file.group ≡ t.group → Found (OpenFact past f.epoch t.group) r → TableFact past f.epoch t → TableFine past f.epoch (on_open_of f t us o r)
on_open_of_fact past f t us o None g k h = decides_fact past f t us o (decision f t us o o.how) g (decision_fact past f.epoch f t us o o.how refl g h) h
on_open_of_fact past f t us o (Some r) g k h = (h, repeats_open_fact past f t.group r r.stage k)

pub takes_open_fact : (past : List Told) (f : Frame) (us : ℕ) (o : OpenRequest) (t : SyncTable) → o.file.group ≡ t.group → TableFact past f.epoch t → TableFine past f.epoch (takes_open f us o t)
takes_open_fact past f us o t g h = on_open_of_fact past f t us o (open_row t (record { us = us; serial = o.serial })) g (row_found (OpenFact past f.epoch t.group) open_key _ t.opens h.opens) h

-- ---- the storage site's answer ----

numbered_group : (m : Mode) (file : FileId) (ino : ℕ) → (numbered_file m file ino).group ≡ file.group
numbered_group mode.Make file ino = refl
numbered_group mode.Read file ino = refl
numbered_group mode.Write file ino = refl
numbered_group mode.Resolve file ino = refl
numbered_group mode.Mend file ino = refl

numbered_base : (past : List Told) (m : Mode) (file : FileId) (ino : ℕ) (ps : List Stamp) (vector : List ℕ) → BaseFact past file m ps vector → BaseFact past (numbered_file m file ino) m ps vector
numbered_base past mode.Make file ino ps vector h = h
numbered_base past mode.Read file ino ps vector h = h
numbered_base past mode.Write file ino ps vector h = h
numbered_base past mode.Resolve file ino ps vector h = h
numbered_base past mode.Mend file ino ps vector h = h

abbrev numbered_row : OpenRow → Mode → ℕ → ℕ → OpenRow
numbered_row r m ino size = record r { stage = stage.Granted; file = numbered_file m r.file ino; size = size }

numbered_grant : (past : List Told) (f : Frame) (r : OpenRow) (m : Mode) (ino size : ℕ) → GrantFact past f.epoch r m stage.Asked → GrantFact (onto (granted_at_last f (numbered_row r m ino size) m) past) f.epoch (numbered_row r m ino size) m stage.Granted
numbered_grant past f r mode.Make ino size h = inl (refl, refl, refl)
numbered_grant past f r mode.Read ino size h = h
numbered_grant past f r mode.Write ino size h = h
numbered_grant past f r mode.Resolve ino size h = h
numbered_grant past f r mode.Mend ino size h = h

answers_open_fact : (past : List Told) (f : Frame) (r : OpenRow) (a : OpenedAs) (t : SyncTable) → OpenFact past f.epoch t.group r → r.stage ≡ stage.Asked → TableFact past f.epoch t → TableFine past f.epoch (answers_open f r a t)
answers_open_fact past f r (opened.Open ino size) t k asked h =
    let q : OpenRow = granted_row r ino size in
    let told : List Told = granted_at_last f q r.mode in (
      table_open (onto told past) f.epoch t q (record {
        group_is = numbered_group r.mode r.file ino ∙ k.group_is;
        base = base_after past told (numbered_file r.mode r.file ino) r.mode r.parents r.vector (numbered_base past r.mode r.file ino r.parents r.vector k.base);
        granted = numbered_grant past f r r.mode ino size (subst (GrantFact past f.epoch r r.mode) asked k.granted);
      }) (table_later past (onto told past) (onto_later told past) f.epoch t h),
      (tt, tt),
    )
answers_open_fact past f r (opened.No why) t k asked h =
    let q : OpenRow = record r { stage = stage.Refused why } in
    let now : List Told = refuse_record f q why ∷ past in
    (table_open now f.epoch t q (record { group_is = k.group_is; base = base_after past (refuse_record f q why ∷ []) r.file r.mode r.parents r.vector k.base; granted = refused_grant now f.epoch q r.mode why }) (table_later past now (one_later _ past) f.epoch t h), (tt, tt))

by_stage_fact : (past : List Told) (f : Frame) (r : OpenRow) (a : OpenedAs) (s : OpenStage) (t : SyncTable) → OpenFact past f.epoch t.group r → r.stage ≡ s → TableFact past f.epoch t → TableFine past f.epoch (by_stage f r a s t)
by_stage_fact past f r a stage.Asked t k q h = answers_open_fact past f r a t k q h
by_stage_fact past f r a stage.Granted t k q h = (h, tt)
by_stage_fact past f r a (stage.Refused why) t k q h = (h, tt)
by_stage_fact past f r a stage.Ended t k q h = (h, tt)

on_opened_of_fact : (past : List Told) (f : Frame) (a : OpenedAs) (o : Option OpenRow) (t : SyncTable) → Found (OpenFact past f.epoch t.group) o → TableFact past f.epoch t → TableFine past f.epoch (on_opened_of f a o t)
on_opened_of_fact past f a None t k h = (h, tt)
on_opened_of_fact past f a (Some r) t k h = by_stage_fact past f r a r.stage t k refl h

pub on_opened_fact : (past : List Told) (f : Frame) (inst : Serial) (a : OpenedAs) (t : SyncTable) → TableFact past f.epoch t → TableFine past f.epoch (on_opened f inst a t)
on_opened_fact past f inst a t h = on_opened_of_fact past f a (open_row t inst) t (row_found (OpenFact past f.epoch t.group) open_key (serial_key inst) t.opens h.opens) h

-- ---- looks ----

serving_fact : (us : ℕ) (l : LookRequest) (r : FileRow) (v : VersionRow) (site : ℕ) (w : What) → NoFact (serving_letter us l r v site w).body
serving_fact us l r v site (what.Name component) = tt
serving_fact us l r v site what.List = tt
serving_fact us l r v site what.Stat = tt
serving_fact us l r v site (what.Whole stamp) = tt

letter_fact : (us : ℕ) (l : LookRequest) (known : Option FileRow) (s : Service) → NoFact (letter us l known s).body
letter_fact us l known (Unserved why) = tt
letter_fact us l None (Serves v site) = tt
letter_fact us l (Some r) (Serves v site) = serving_fact us l r v site l.what

new_look_fact : (past : List Told) (f : Frame) (us : ℕ) (l : LookRequest) (known : Option FileRow) (t : SyncTable) → TableFact past f.epoch t → TableFine past f.epoch (new_look f us l known t)
new_look_fact past f us l known t h =
    let s : Service = service f us l.what known in
    let p : NoFact (letter us l known s).body = letter_fact us l known s in
    let now : List Told = onto (new_look f us l known t).told past in
    let k : TableFact now f.epoch t = table_later past now (onto_later (new_look f us l known t).told past) f.epoch t h in
    (record { files = k.files; opens = k.opens; looks = every_row LookFact look_key (last_look us l (letter us l known s)) t.looks p h.looks; early = h.early }, (no_fact now f.epoch (letter us l known s).body p, tt))

after_last_fact : (past : List Told) (f : Frame) (us : ℕ) (l : LookRequest) (o : Option LastLook) (t : SyncTable) → Found LookFact o → TableFact past f.epoch t → TableFine past f.epoch (after_last f us l o t)
after_last_fact past f us l None t k h = new_look_fact past f us l (file_row t l.file.ino) t h
after_last_fact past f us l (Some last) t k h =
    elim (is_look_before l last) as (λ b. TableFine past f.epoch (elim b [ true ↦ quiet t | false ↦ elim (is_same_look l last) [ true ↦ sends (packet f last.to last.body ∷ []) t | false ↦ new_look f us l (file_row t l.file.ino) t ] ])) [
      | true ↦ (h, tt)
      | false ↦ elim (is_same_look l last) as (λ b. TableFine past f.epoch (elim b [ true ↦ sends (packet f last.to last.body ∷ []) t | false ↦ new_look f us l (file_row t l.file.ino) t ])) [
        | true ↦ (h, (no_fact past f.epoch last.body k, tt))
        | false ↦ new_look_fact past f us l (file_row t l.file.ino) t h
      ]
    ]

pub takes_look_fact : (past : List Told) (f : Frame) (us : ℕ) (l : LookRequest) (t : SyncTable) → TableFact past f.epoch t → TableFine past f.epoch (takes_look f us l t)
takes_look_fact past f us l t h = after_last_fact past f us l (row look_key (process_key us l.process) t.looks) t (row_found LookFact look_key (process_key us l.process) t.looks h.looks) h
