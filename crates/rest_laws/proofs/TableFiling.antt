-- A table with a row of a file in the place of the one that was there, of which something more is noted.
use Rattle.std.proofs.Common.{◌≡◌, ℕ, true, List, [], ◌∷◌, length, map, Option, Some, sym, ◌∙◌, ap, subst, ◌⊎◌, inl, inr, refl}
use Rattle.role_steps.proofs.of_plain_facts.Options.{some_same}
use Rattle.locus_ids.specs.declared.config.Config.{Config}
use Rattle.locus_ids.specs.declared.ids.EpochId.{EpochId}
use Rattle.role_steps.specs.Own.{Every}
use Rattle.role_steps.specs.Tables.{row, with_row}
use Rattle.role_steps.specs.Versions.{file_row, kept, row_ino, with_file}
use Rattle.role_steps.specs.Views.{Frame}
use Rattle.role_steps.specs.declared.synchronizing.FileRow.{FileRow}
use Rattle.role_steps.specs.declared.synchronizing.SyncTable.{SyncTable}
use Rattle.role_steps.specs.declared.synchronizing.VersionRow.{VersionRow}
use Rattle.the_run.specs.Kept.{Among}
use Rattle.the_run.specs.Worlds.{Line}
use Rattle.the_run.proofs.InsideSync.{every_row}
use Rattle.tree_model.specs.Files.{kind_of_file, set_of_file}
use Rattle.tree_laws.specs.Instances.{Stands, held_in}
use Rattle.tree_laws.specs.Packets.{file_in}
use Rattle.tree_laws.specs.Printed.{entries}
use Rattle.tree_laws.specs.Stores.{Ascends}
use Rattle.tree_laws.specs.Tables.{AreRising, ExactFact, FileFact, FilesFact, HasHolder, IsAhead, IsNoted, IsStill, StartedFiles, TableFact, known_stamps, row_stamp}
use Rattle.store_laws.proofs.of_row_laws.CallRows.Rising.{key_case}
use Rattle.store_laws.proofs.Tabled.{ascends_row, row_other, row_same}
use Rattle.rest_laws.proofs.TableNoting.{NotedRow}

-- ---- rows in order ----

rises : (rs : List FileRow) → Ascends row_ino rs → AreRising rs
rises [] k = tt
rises (r ∷ rs) k = (k.0, rises rs k.1)

ascends : (rs : List FileRow) → AreRising rs → Ascends row_ino rs
ascends [] k = tt
ascends (r ∷ rs) k = (k.0, ascends rs k.1)

pub rising_row : (r : FileRow) (rs : List FileRow) → AreRising rs → AreRising (with_row row_ino r rs)
rising_row r rs k = rises (with_row row_ino r rs) (ascends_row row_ino r rs (ascends rs k))

-- ---- a row ----

every_self : {A : Type 0} (P Q : A → Type 0) (xs : List A) → ((x : A) → Among x xs → P x → Q x) → Every P xs → Every Q xs
every_self P Q [] h k = tt
every_self P Q (x ∷ xs) h k = (h x (inl refl) k.0, every_self P Q xs (λ y a. h y (inr a)) k.1)

-- what the trace has of a file it has of a row in which more is noted
pub noted_fact : (c : Config) (trace : List Line) (e : EpochId) (group : ℕ) (r q : FileRow) → FileFact c trace e group r → NotedRow c trace e group r q → FileFact c trace e group q
noted_fact c trace e group r q k n = record {
  some = k.some;
  stands = subst (λ (i : ℕ). Stands c trace (file_in group i) k.some) (sym n.ino_is) k.stands;
  kind_is = n.kind_is ∙ (k.kind_is ∙ ap (λ (i : ℕ). kind_of_file c (entries trace) (file_in group i)) (sym n.ino_is));
  set_is = n.set_is ∙ (k.set_is ∙ ap (λ (i : ℕ). set_of_file c (entries trace) (file_in group i)) (sym n.ino_is));
  versions = n.so.versions;
  keeps = n.so.keeps;
  holders = n.so.holders;
  held = subst (Every (HasHolder q)) (sym n.kept_are) (every_self (HasHolder r) (HasHolder q) r.kept n.holds k.held);
  orderly = n.so.orderly;
}

-- ---- the table ----

module _ (c : Config) (trace : List Line) (f : Frame) (t : SyncTable) (k : TableFact c trace f t) (started : t.started ≡ true) (r q : FileRow) (found : file_row t r.ino ≡ Some r) (fact : FileFact c trace f.epoch t.group r) (n : NotedRow c trace f.epoch t.group r q) where
  here : (ino : ℕ) → q.ino ≡ ino → file_row (with_file q t) ino ≡ Some q
  here ino same = ap (λ (i : ℕ). row row_ino i (with_row row_ino q t.files)) (sym same) ∙ row_same row_ino q t.files

  was : (ino : ℕ) → q.ino ≡ ino → file_row t ino ≡ Some r
  was ino same = ap (λ (i : ℕ). file_row t i) (sym same ∙ n.ino_is) ∙ found

  elsewhere : (ino : ℕ) → (q.ino ≡ ino → ⊥) → file_row (with_file q t) ino ≡ file_row t ino
  elsewhere ino other = row_other row_ino q ino t.files other

  known_same : (ino : ℕ) → known_stamps (file_row (with_file q t) ino) ≡ known_stamps (file_row t ino)
  known_same ino = key_case (known_stamps (file_row (with_file q t) ino) ≡ known_stamps (file_row t ino)) q.ino ino
      (λ same. ap known_stamps (here ino same) ∙ (ap (λ (vs : List VersionRow). map row_stamp vs) n.versions_are ∙ ap known_stamps (sym (was ino same)))) (λ other. ap known_stamps (elsewhere ino other))

  kept_same : (ino : ℕ) → map row_stamp (kept (file_row (with_file q t) ino)) ≡ map row_stamp (kept (file_row t ino))
  kept_same ino = key_case (map row_stamp (kept (file_row (with_file q t) ino)) ≡ map row_stamp (kept (file_row t ino))) q.ino ino
      (λ same. ap (λ (o : Option FileRow). map row_stamp (kept o)) (here ino same) ∙ (ap (λ (vs : List VersionRow). map row_stamp vs) n.kept_are ∙ ap (λ (o : Option FileRow). map row_stamp (kept o)) (sym (was ino same))))
      (λ other. ap (λ (o : Option FileRow). map row_stamp (kept o)) (elsewhere ino other))

  exact_row : ExactFact c trace f t.group r → ExactFact c trace f t.group q
  exact_row exact site stamp still held = over (exact site stamp (as_still still) (ap (λ (i : ℕ). held_in c (entries trace) f.epoch site (file_in t.group i)) (sym n.ino_is) ∙ held))
    where
      as_still : IsStill f.me q site → IsStill f.me r site
      as_still (inl e) = inl e
      as_still (inr many) = inr (λ one. many (ap length n.kept_are ∙ one))

      over : IsNoted r site stamp ⊎ IsAhead c trace f.epoch site (file_in t.group r.ino) → IsNoted q site stamp ⊎ IsAhead c trace f.epoch site (file_in t.group q.ino)
      over (inl a) = inl (n.notes site stamp (ap (λ (i : ℕ). held_in c (entries trace) f.epoch site (file_in t.group i)) (sym n.ino_is) ∙ held) a)
      over (inr a) = inr (subst (λ (i : ℕ). IsAhead c trace f.epoch site (file_in t.group i)) (sym n.ino_is) a)

  started_files : StartedFiles c trace f t → StartedFiles c trace f (with_file q t)
  started_files s = record {
    known = λ ino. known_same ino ∙ s.known ino;
    kept_is = λ ino. kept_same ino ∙ s.kept_is ino;
    exact = λ ino x at. key_case (ExactFact c trace f t.group x) q.ino ino
        (λ same. subst (ExactFact c trace f t.group) (some_same q x (sym (here ino same) ∙ at)) (exact_row (s.exact r.ino r found)))
        (λ other. s.exact ino x (sym (elsewhere ino other) ∙ at));
  }

  pub filed_table : TableFact c trace f (with_file q t)
  filed_table = record {
    started = k.started;
    early = k.early;
    early_here = k.early_here;
    early_only = k.early_only;
    all = k.all;
    rows = every_row (FileFact c trace f.epoch t.group) row_ino q t.files (noted_fact c trace f.epoch t.group r q fact n) k.rows;
    rise = rising_row q t.files k.rise;
    files = subst (FilesFact c trace f (with_file q t)) (sym started) (started_files (subst (FilesFact c trace f t) started k.files));
    opens = k.opens;
    apart = k.apart;
    has = k.has;
    openers_are = k.openers_are;
    turns = k.turns;
    looks = k.looks;
  }
