-- The join of the kept vectors of a file only rises as versions become known.
use Rattle.std.proofs.Common.{◌≡◌, ℕ, ◌==◌, nat_lt, Bool, true, false, not, ◌||◌, cond, List, [], ◌∷◌, filter, Option, Some, None, refl, sym, ◌∙◌, subst, arith}
use Rattle.std.proofs.lemmas.Bool.Decides.{nat_tests}
use Rattle.role_steps.proofs.of_plain_facts.Numbers.{apart_test, equal}
use Rattle.role_steps.proofs.of_plain_facts.Tests.{both_true}
use Rattle.locus_ids.specs.declared.ids.FileId.{FileId}
use Rattle.locus_ids.specs.declared.ids.Kind.{Kind}
use Rattle.locus_ids.specs.declared.ids.Stamp.{Stamp}
use Rattle.locus_ids.specs.declared.sites.Sites.{Sites}
use Rattle.version_vector.specs.Counters.{all_le, joined, AllLe}
use Rattle.version_vector.proofs.Counting.{AllLe-from_test, AllLe-joined_left, AllLe-joined_right, joined_least, AllLe-same, AllLe-through}
use Rattle.wire_messages.specs.declared.body.ReportedCopy.{ReportedCopy}
use Rattle.wire_messages.specs.declared.body.MadeVersion.{MadeVersion}
use Rattle.role_steps.specs.Own.{Every}
use Rattle.role_steps.specs.Tables.{with_row}
use Rattle.role_steps.specs.Views.{Told, stamp_key}
use Rattle.role_steps.specs.Versions.{is_below, version_key, row_ino, file_row, with_file, is_below_some, not_below, with_kept, kept, joined_vectors, unknown_file, known_or, with_version, with_holder, holding_of, version_of, rises_to, noted_at, noted_of, noted}
use Rattle.role_steps.specs.Reports.{version_reported, with_reported, with_all_reported, published_row}
use Rattle.role_steps.specs.declared.synchronizing.SyncTable.{SyncTable}
use Rattle.role_steps.specs.declared.synchronizing.FileRow.{FileRow}
use Rattle.role_steps.specs.declared.synchronizing.VersionRow.{VersionRow}
use Rattle.role_steps.specs.declared.synchronizing.Holding.{Holding}
use Rattle.role_steps.specs.declared.synchronizing.OpenRow.{OpenRow}
use Rattle.role_steps.proofs.Rows.{row_other, row_same}
use Rattle.the_run.proofs.Boots.{at_each, every_weaker}
use Rattle.the_run.proofs.InsideSync.{every_row}
use Rattle.site_laws.specs.Vectors.Written.{WrittenAs}
use Rattle.site_laws.specs.Vectors.Facts.{file_in, ReportedFact, VersionFact, RowFact}
use Rattle.site_laws.proofs.Vectors.SyncFacts.{row_at, version_row, known_row, noted_row}

-- a stamp's key has one written vector for each file
abbrev pub OneVector : List Told → Type 0
OneVector past = (file : FileId) (a b : Stamp) (v w : List ℕ) → stamp_key a ≡ stamp_key b → WrittenAs past file a v → WrittenAs past file b w → AllLe v w

abbrev pub joins : List VersionRow → List ℕ
joins vs = joined_vectors vs

-- ---- one version more ----

abbrev Alike : VersionRow → VersionRow → Type 0
Alike v w = version_key w ≡ version_key v → AllLe w.vector v.vector

put_there : (v : VersionRow) (ws : List VersionRow) → AllLe v.vector (joins (with_row version_key v ws))
put_there v [] = AllLe-joined_left v.vector (joins [])
put_there v (w ∷ ws) =
    elim (nat_lt (version_key w) (version_key v)) as (λ b. AllLe v.vector (joins (elim b [ true ↦ w ∷ with_row version_key v ws | false ↦ elim (version_key w == version_key v) [ true ↦ v ∷ ws | false ↦ v ∷ w ∷ ws ] ]))) [
      | true ↦ AllLe-through v.vector (joins (with_row version_key v ws)) (joined w.vector (joins (with_row version_key v ws))) (put_there v ws) (AllLe-joined_right w.vector (joins (with_row version_key v ws)))
      | false ↦ elim (version_key w == version_key v) as (λ b. AllLe v.vector (joins (elim b [ true ↦ v ∷ ws | false ↦ v ∷ w ∷ ws ]))) [
        | true ↦ AllLe-joined_left v.vector (joins ws)
        | false ↦ AllLe-joined_left v.vector (joined w.vector (joins ws))
      ]
    ]

put_rises : (v : VersionRow) (ws : List VersionRow) → Every (Alike v) ws → AllLe (joins ws) (joins (with_row version_key v ws))
put_rises v [] h = AllLe-joined_right v.vector (joins [])
put_rises v (w ∷ ws) h =
    elim (nat_lt (version_key w) (version_key v)) as (λ b. AllLe (joined w.vector (joins ws)) (joins (elim b [ true ↦ w ∷ with_row version_key v ws | false ↦ elim (version_key w == version_key v) [ true ↦ v ∷ ws | false ↦ v ∷ w ∷ ws ] ]))) [
      | true ↦ joined_least w.vector (joins ws) (joined w.vector (joins (with_row version_key v ws))) (AllLe-joined_left w.vector (joins (with_row version_key v ws)))
          (AllLe-through (joins ws) (joins (with_row version_key v ws)) (joined w.vector (joins (with_row version_key v ws))) (put_rises v ws h.1) (AllLe-joined_right w.vector (joins (with_row version_key v ws))))
      | false ↦ (elim (version_key w == version_key v) as (λ b. (version_key w == version_key v) ≡ b → AllLe (joined w.vector (joins ws)) (joins (elim b [ true ↦ v ∷ ws | false ↦ v ∷ w ∷ ws ]))) [
        | true ↦ λ e. joined_least w.vector (joins ws) (joined v.vector (joins ws)) (AllLe-through w.vector v.vector (joined v.vector (joins ws)) (h.0 (equal (version_key w) (version_key v) e)) (AllLe-joined_left v.vector (joins ws))) (AllLe-joined_right v.vector (joins ws))
        | false ↦ λ e. AllLe-joined_right v.vector (joined w.vector (joins ws))
      ]) refl
    ]

below_le : (a b : List ℕ) → is_below a b ≡ true → AllLe a b
below_le a b e = AllLe-from_test a b (both_true (all_le a b) (not (all_le b a)) e).0

drop_rises : (v : VersionRow) (ws : List VersionRow) → AllLe (joins ws) (joined v.vector (joins (not_below v ws)))
drop_rises v [] = AllLe-joined_right v.vector (joins [])
drop_rises v (w ∷ ws) =
    (elim (is_below w.vector v.vector) as (λ b. is_below w.vector v.vector ≡ b → AllLe (joined w.vector (joins ws)) (joined v.vector (joins (cond (not b) (w ∷ not_below v ws) (not_below v ws))))) [
      | true ↦ λ e. joined_least w.vector (joins ws) (joined v.vector (joins (not_below v ws))) (AllLe-through w.vector v.vector (joined v.vector (joins (not_below v ws))) (below_le w.vector v.vector e) (AllLe-joined_left v.vector (joins (not_below v ws)))) (drop_rises v ws)
      | false ↦ λ e. kept_one (drop_rises v ws)
    ]) refl
  where
    kept_one : AllLe (joins ws) (joined v.vector (joins (not_below v ws))) → AllLe (joined w.vector (joins ws)) (joined v.vector (joined w.vector (joins (not_below v ws))))
    kept_one before =
        let rest : List ℕ = joins (not_below v ws) in
        let all : List ℕ = joined v.vector (joined w.vector rest) in
        joined_least w.vector (joins ws) all (AllLe-through w.vector (joined w.vector rest) all (AllLe-joined_left w.vector rest) (AllLe-joined_right v.vector (joined w.vector rest)))
        (AllLe-through (joins ws) (joined v.vector rest) all before
        (joined_least v.vector rest all (AllLe-joined_left v.vector (joined w.vector rest)) (AllLe-through rest (joined w.vector rest) all (AllLe-joined_right w.vector rest) (AllLe-joined_right v.vector (joined w.vector rest)))))

cons_if : {A : Type 0} (P : A → Type 0) (b : Bool) (x : A) (xs : List A) → P x → Every P xs → Every P (cond b (x ∷ xs) xs)
cons_if P true x xs p h = (p, h)
cons_if P false x xs p h = h

every_filter : {A : Type 0} (P : A → Type 0) (test : A → Bool) (xs : List A) → Every P xs → Every P (filter test xs)
every_filter P test [] h = tt
every_filter P test (x ∷ xs) h = cons_if P (test x) x (filter test xs) h.0 (every_filter P test xs h.1)

or_cases : (P : Type 0) (a b : Bool) → (a || b) ≡ true → (a ≡ true → P) → (b ≡ true → P) → P
or_cases P true b h f g = f refl
or_cases P false b h f g = g h

below_some : (v : VersionRow) (ws : List VersionRow) → is_below_some v ws ≡ true → AllLe v.vector (joins ws)
below_some v [] e = absurd (cc)
below_some v (w ∷ ws) e =
    or_cases (AllLe v.vector (joined w.vector (joins ws))) (is_below v.vector w.vector) (is_below_some v ws) e
    (λ a. AllLe-through v.vector w.vector (joined w.vector (joins ws)) (below_le v.vector w.vector a) (AllLe-joined_left w.vector (joins ws)))
    (λ b. AllLe-through v.vector (joins ws) (joined w.vector (joins ws)) (below_some v ws b) (AllLe-joined_right w.vector (joins ws)))

-- the join with one version more counts that version and all before
pub record Rises (v : VersionRow) (old new : List VersionRow) : Type 0 where
  pub all : AllLe (joins old) (joins new)
  pub one : AllLe v.vector (joins new)

kept_rises : (v : VersionRow) (ws : List VersionRow) → Every (Alike v) ws → Rises v ws (with_kept v ws)
kept_rises v ws h =
    (elim (is_below_some v ws) as (λ b. is_below_some v ws ≡ b → Rises v ws (elim b [ true ↦ ws | false ↦ with_row version_key v (not_below v ws) ])) [
      | true ↦ λ e. record { all = AllLe-same (joins ws); one = below_some v ws e }
      | false ↦ λ e. record {
        all = AllLe-through (joins ws) (joined v.vector (joins (not_below v ws))) (joins (with_row version_key v (not_below v ws))) (drop_rises v ws)
            (joined_least v.vector (joins (not_below v ws)) (joins (with_row version_key v (not_below v ws))) (put_there v (not_below v ws)) (put_rises v (not_below v ws) (every_filter (Alike v) (λ (w : VersionRow). not (is_below w.vector v.vector)) ws h)));
        one = put_there v (not_below v ws);
      }
    ]) refl

alikes : (past : List Told) (file : FileId) (v : VersionRow) (ws : List VersionRow) → OneVector past → VersionFact past file v → Every (VersionFact past file) ws → Every (Alike v) ws
alikes past file v ws one h g = every_weaker (VersionFact past file) (Alike v) ws (λ w k e. one file w.stamp v.stamp w.vector v.vector e k h) g

-- ---- tables ----

-- of each file the join in the later table counts all that the earlier one does
abbrev pub KeptLe : SyncTable → SyncTable → Type 0
KeptLe t u = (ino : ℕ) → AllLe (joins (kept (file_row t ino))) (joins (kept (file_row u ino)))

pub same_kept : (t : SyncTable) → KeptLe t t
same_kept t ino = AllLe-same (joins (kept (file_row t ino)))

pub then_kept : (t u w : SyncTable) → KeptLe t u → KeptLe u w → KeptLe t w
then_kept t u w h g ino = AllLe-through (joins (kept (file_row t ino))) (joins (kept (file_row u ino))) (joins (kept (file_row w ino))) (h ino) (g ino)

pub put_file : (r : FileRow) (t : SyncTable) → AllLe (joins (kept (file_row t r.ino))) (joins r.kept) → KeptLe t (with_file r t)
put_file r t h ino = at_each r.ino ino (AllLe (joins (kept (file_row t ino))) (joins (kept (file_row (with_file r t) ino))))
    (λ e. subst (λ (n : ℕ). AllLe (joins (kept (file_row t n))) (joins (kept (file_row (with_file r t) n)))) e (subst (λ (o : Option FileRow). AllLe (joins (kept (file_row t r.ino))) (joins (kept o))) (sym (row_same row_ino r t.files)) h))
    (λ ne. subst (λ (o : Option FileRow). AllLe (joins (kept (file_row t ino))) (joins (kept o))) (sym (row_other row_ino r ino t.files (apart_test r.ino ino ne))) (AllLe-same (joins (kept (file_row t ino)))))

-- what was put there counts what its kept versions do
pub file_there : (r : FileRow) (t : SyncTable) (ino : ℕ) (v : List ℕ) → r.ino ≡ ino → AllLe v (joins r.kept) → AllLe v (joins (kept (file_row (with_file r t) ino)))
file_there r t ino v e h = subst (λ (n : ℕ). AllLe v (joins (kept (file_row (with_file r t) n)))) e (subst (λ (o : Option FileRow). AllLe v (joins (kept o))) (sym (row_same row_ino r t.files)) h)

known_kept : (ino : ℕ) (k : Kind) (set : Sites) (o : Option FileRow) → AllLe (joins (kept o)) (joins (known_or (unknown_file ino k set) o).kept)
known_kept ino k set None = AllLe-same (joins [])
known_kept ino k set (Some r) = AllLe-same (joins r.kept)

-- ---- a report ----

record Known (past : List Told) (t u : SyncTable) (ino : ℕ) (v : List ℕ) : Type 0 where
  rises : KeptLe t u
  there : AllLe v (joins (kept (file_row u ino)))
  rows : Every (RowFact past t.group) u.files

-- one version more of a file that may be unknown yet
one_known : (past : List Told) (t : SyncTable) (ino : ℕ) (k : Kind) (set : Sites) (v : VersionRow) (last : FileRow → FileRow) → ((r : FileRow) → ((last r).ino ≡ r.ino) × ((last r).kept ≡ r.kept) × (RowFact past t.group r → RowFact past t.group (last r))) →
    OneVector past → VersionFact past (file_in t.group ino) v → Every (RowFact past t.group) t.files → Known past t (with_file (last (with_version v (known_or (unknown_file ino k set) (file_row t ino)))) t) ino v.vector
one_known past t ino k set v last same one h rows = record {
  rises = put_file r t (subst (λ (vs : List VersionRow). AllLe (joins (kept (file_row t r.ino))) (joins vs)) (sym (same (with_version v known)).1)
      (subst (λ (n : ℕ). AllLe (joins (kept (file_row t n))) (joins (with_kept v known.kept))) (sym (named ∙ k0.0)) (AllLe-through (joins (kept (file_row t ino))) (joins known.kept) (joins (with_kept v known.kept)) (known_kept ino k set (file_row t ino)) q.all)));
  there = file_there r t ino v.vector (named ∙ k0.0) (subst (λ (vs : List VersionRow). AllLe v.vector (joins vs)) (sym (same (with_version v known)).1) q.one);
  rows = every_row (RowFact past t.group) row_ino r t.files ((same (with_version v known)).2 (version_row past t.group v known fact k0.1)) rows;
}
  where
    known : FileRow
    known = known_or (unknown_file ino k set) (file_row t ino)

    r : FileRow
    r = last (with_version v known)

    k0 : (known.ino ≡ ino) × RowFact past t.group known
    k0 = known_row past t.group ino k set (file_row t ino) (row_at (RowFact past t.group) row_ino ino t.files rows)

    named : r.ino ≡ known.ino
    named = (same (with_version v known)).0

    fact : VersionFact past (file_in t.group known.ino) v
    fact = subst (λ (n : ℕ). VersionFact past (file_in t.group n) v) (sym k0.0) h

    q : Rises v known.kept (with_kept v known.kept)
    q = kept_rises v known.kept (alikes past (file_in t.group known.ino) v known.kept one fact k0.1.kept)

reported_known : (past : List Told) (from : ℕ) (x : ReportedCopy) (t : SyncTable) → OneVector past → ReportedFact past t.group x → Every (RowFact past t.group) t.files → Known past t (with_reported from x t) x.ino x.vector
reported_known past from x t one h rows = one_known past t x.ino x.kind x.set (version_reported x) (with_holder from x.stamp) (λ r. (refl, refl, λ k. record { versions = k.versions; kept = k.kept })) one h rows

-- the table counts each copy that is reported
abbrev pub InTable : SyncTable → ReportedCopy → Type 0
InTable u x = AllLe x.vector (joins (kept (file_row u x.ino)))

pub record Reported (past : List Told) (t u : SyncTable) (xs : List ReportedCopy) : Type 0 where
  pub rises : KeptLe t u
  pub each : Every (InTable u) xs

pub all_reported : (past : List Told) (from : ℕ) (xs : List ReportedCopy) (t : SyncTable) → OneVector past → Every (ReportedFact past t.group) xs → Every (RowFact past t.group) t.files → Reported past t (with_all_reported from xs t) xs
all_reported past from [] t one h rows = record { rises = same_kept t; each = tt }
all_reported past from (x ∷ xs) t one h rows =
    let u : SyncTable = with_reported from x t in
    let k : Known past t u x.ino x.vector = reported_known past from x t one h.0 rows in
    let q : Reported past u (with_all_reported from xs u) xs = all_reported past from xs u one h.1 k.rows in
    record { rises = then_kept t u (with_all_reported from xs u) k.rises q.rises; each = (AllLe-through x.vector (joins (kept (file_row u x.ino))) (joins (kept (file_row (with_all_reported from xs u) x.ino))) k.there (q.rises x.ino), q.each) }

-- ---- who holds what leaves the kept versions as they are ----

abbrev KeepsKept : FileRow → FileRow → Type 0
KeepsKept r q = (q.ino ≡ r.ino) × (q.kept ≡ r.kept)

cond_kept : (b : Bool) (r q : FileRow) → KeepsKept r q → KeepsKept r (cond b q r)
cond_kept true r q h = h
cond_kept false r q h = (refl, refl)

noted_at_kept : (r : FileRow) (site : ℕ) (v : VersionRow) (o : Option Holding) → KeepsKept r (noted_at r site v o)
noted_at_kept r site v None = (refl, refl)
noted_at_kept r site v (Some h) = cond_kept (rises_to v (version_of r h.stamp)) r (with_holder site v.stamp r) (refl, refl)

noted_of_kept : (r : FileRow) (site : ℕ) (o : Option VersionRow) → KeepsKept r (noted_of r site o)
noted_of_kept r site None = (refl, refl)
noted_of_kept r site (Some v) = noted_at_kept r site v (holding_of r site)

pub noted_kept : (site : ℕ) (stamp : Stamp) (r : FileRow) → ((noted site stamp r).ino ≡ r.ino) × ((noted site stamp r).kept ≡ r.kept)
noted_kept site stamp r = noted_of_kept r site (version_of r stamp)

-- what an instance made last is published
pub published_known : (past : List Told) (ss : ℕ) (r : OpenRow) (v : MadeVersion) (t : SyncTable) → OneVector past → WrittenAs past (file_in t.group r.file.ino) v.stamp v.vector → Every (RowFact past t.group) t.files →
    KeptLe t (with_file (published_row ss r v (file_row t r.file.ino)) t) × AllLe v.vector (joins (kept (file_row (with_file (published_row ss r v (file_row t r.file.ino)) t) r.file.ino)))
published_known past ss r v t one h rows =
    let k : Known past t (with_file (published_row ss r v (file_row t r.file.ino)) t) r.file.ino v.vector =
    one_known past t r.file.ino r.kind r.set (record { stamp = v.stamp; vector = v.vector; size = v.size }) (noted ss v.stamp) (λ q. ((noted_kept ss v.stamp q).0, (noted_kept ss v.stamp q).1, λ f. noted_row past t.group ss v.stamp q f)) one h rows in
    (k.rises, k.there)
