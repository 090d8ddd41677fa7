-- The vectors of all kept versions of a group, in the table of its synchronization site and in its tree.
use Rattle.std.proofs.Common.{◌≡◌, ℕ, ◌==◌, ◌<◌, ◌≤◌, Bool, true, false, not, cond, nat_lt, List, [], ◌∷◌, ◌++◌, map, filter, Option, Some, None, refl, sym, ◌∙◌, ap, subst, arith}
use Rattle.std.proofs.lemmas.Bool.Decides.{nat_tests}
use Rattle.std.proofs.lemmas.List.{map-append}
use Rattle.std.specs.List.{AllByRecursion, flat_map}
use Rattle.role_steps.proofs.of_plain_facts.Numbers.{above_apart, at_most_of, equal, equal_self}
use Rattle.locus_ids.specs.declared.config.Config.{Config}
use Rattle.locus_ids.specs.declared.ids.Brought.{Brought}
use Rattle.locus_ids.specs.declared.ids.Stamp.{Stamp}
use Rattle.commit_graph.specs.Vectors.{vector_of}
use Rattle.commit_graph.specs.Versions as graph
use Rattle.dir_reconcile.specs.declared.kept.KeptVector.{KeptVector}
use Rattle.role_steps.specs.Mends.{file_vectors, kept_vector}
use Rattle.role_steps.specs.Mends as role
use Rattle.role_steps.specs.Own.{Every}
use Rattle.role_steps.specs.Tables.{row}
use Rattle.role_steps.specs.Versions.{kept, row_ino}
use Rattle.role_steps.specs.Views.{Frame}
use Rattle.role_steps.specs.declared.synchronizing.FileRow.{FileRow}
use Rattle.role_steps.specs.declared.synchronizing.SyncTable.{SyncTable}
use Rattle.role_steps.specs.declared.synchronizing.VersionRow.{VersionRow}
use Rattle.the_run.specs.Worlds.{Line}
use Rattle.tree_model.specs.Files.{HeldVersion}
use Rattle.tree_model.specs.Histories.{history}
use Rattle.tree_model.specs.Mending.{file_in, is_kept, kept_vectors, vector_kept}
use Rattle.tree_model.specs.State.{TreeState, has_stamp, is_brought_below, kept_of, stamps_of}
use Rattle.tree_model.specs.Tree.{tree_of, kept_in}
use Rattle.tree_laws.specs.Printed.{entries}
use Rattle.tree_laws.specs.Tables.{AreRising, FileFact, StartedFiles, TableFact, VersionFact, row_stamp}
use Rattle.tree_laws.proofs.Kinship.{tree_group_is}
use Rattle.store_laws.proofs.Holdings.OneVersionAscending.{Ascends, known_ascends}
use Rattle.rest_laws.proofs.MendStepLists.{Climbs, climbs_filter, filter_again, is_at, one_at, parted, stamps_back, stamps_filter, stamps_none, stamps_others}

-- ---- a table's versions of one list ----

-- the kept versions of the row's file, as versions of the group
abbrev kept_row : FileRow → List Brought
kept_row r = map (one_at r.ino) (map row_stamp r.kept)

trans : (a b d : ℕ) → a < b → b < d → a < d
trans a b d p q = omega (arith, p, q)

no_row : (k : ℕ) (rs : List FileRow) → Every (λ (q : FileRow). k < q.ino) rs → row row_ino k rs ≡ None
no_row k [] h = refl
no_row k (r ∷ rs) h = rw (above_apart k r.ino h.0, row) (no_row k rs h.1)

above_all : (j k : ℕ) (rs : List FileRow) → j < k → Every (λ (q : FileRow). k < q.ino) rs → Every (λ (q : FileRow). j < q.ino) rs
above_all j k [] lt h = tt
above_all j k (r ∷ rs) lt h = (trans j k r.ino lt h.0, above_all j k rs lt h.1)

all_above : (j k : ℕ) (ys : List Brought) → j ≤ k → Every (λ (y : Brought). k ≤ y.ino) ys → Every (λ (y : Brought). j ≤ y.ino) ys
all_above j k [] le h = tt
all_above j k (y ∷ ys) le h = (at_most_of j k y.ino le h.0, all_above j k ys le h.1)

full : (s : Stamp) (ss : List Stamp) → [] ≡ s ∷ ss → ⊥
full s ss e = cc

low_first : (j k : ℕ) → (j < k → ⊥) → k ≤ j
low_first j k none = at (nat_lt j k) refl
  where
    less : nat_lt j k ≡ true → j < k
    less e = grind (arith, nat_tests)

    not_less : nat_lt j k ≡ false → k ≤ j
    not_less e = grind (arith, nat_tests)

    at : (b : Bool) → nat_lt j k ≡ b → k ≤ j
    at true e = absurd (none (less e))
    at false e = not_less e

own_first : (b : Brought) (bs : List Brought) → stamps_of (b ∷ bs) b.ino ≡ b.stamp ∷ stamps_of bs b.ino
own_first b bs = ap (λ (x : Bool). map (λ (y : Brought). y.stamp) (cond x (b ∷ filter (is_at b.ino) bs) (filter (is_at b.ino) bs))) (equal_self b.ino)

-- rows by ascending numbers have these versions of each file: then they have these versions
pub rows_make : (rs : List FileRow) → AreRising rs → (bs : List Brought) → Climbs bs → ((ino : ℕ) → map row_stamp (kept (row row_ino ino rs)) ≡ stamps_of bs ino) → flat_map kept_row rs ≡ bs
rows_make [] up [] climbs same = refl
rows_make [] up (b ∷ bs) climbs same = absurd (full b.stamp (stamps_of bs b.ino) (same b.ino ∙ own_first b bs))
rows_make (r ∷ rs) up bs climbs same = whole (rows_make rs up.1 (filter (λ (b : Brought). not (b.ino == r.ino)) bs) (climbs_filter (λ (b : Brought). not (b.ino == r.ino)) bs climbs) left)
  where
    found : row row_ino r.ino (r ∷ rs) ≡ Some r
    found = rw (equal_self r.ino, row) refl

    first : kept_row r ≡ filter (is_at r.ino) bs
    first = ap (map (one_at r.ino)) (sym (ap (λ (o : Option FileRow). map row_stamp (kept o)) found) ∙ same r.ino) ∙ stamps_back r.ino bs

    other_row : (ino : ℕ) → (r.ino == ino) ≡ false → row row_ino ino (r ∷ rs) ≡ row row_ino ino rs
    other_row ino e = rw (e, row) refl

    left : (ino : ℕ) → map row_stamp (kept (row row_ino ino rs)) ≡ stamps_of (filter (λ (b : Brought). not (b.ino == r.ino)) bs) ino
    left ino = at (r.ino == ino) refl
      where
        at : (x : Bool) → (r.ino == ino) ≡ x → map row_stamp (kept (row row_ino ino rs)) ≡ stamps_of (filter (λ (b : Brought). not (b.ino == r.ino)) bs) ino
        at true e = subst (λ (n : ℕ). map row_stamp (kept (row row_ino n rs)) ≡ stamps_of (filter (λ (b : Brought). not (b.ino == r.ino)) bs) n) (equal r.ino ino e)
            (ap (λ (o : Option FileRow). map row_stamp (kept o)) (no_row r.ino rs up.0) ∙ sym (stamps_none r.ino bs))
        at false e = sym (ap (λ (o : Option FileRow). map row_stamp (kept o)) (other_row ino e)) ∙ (same ino ∙ sym (stamps_others r.ino ino bs e))

    low : (bs : List Brought) → Climbs bs → ((ino : ℕ) → map row_stamp (kept (row row_ino ino (r ∷ rs))) ≡ stamps_of bs ino) → Every (λ (y : Brought). r.ino ≤ y.ino) bs
    low [] climbs same = tt
    low (b ∷ bs) climbs same = (head, all_above r.ino b.ino bs head climbs.0)
      where
        head : r.ino ≤ b.ino
        head = low_first b.ino r.ino (λ lt. full b.stamp (stamps_of bs b.ino) (sym (ap (λ (o : Option FileRow). map row_stamp (kept o)) (no_row b.ino (r ∷ rs) (lt, above_all b.ino r.ino rs lt up.0))) ∙ (same b.ino ∙ own_first b bs)))

    whole : flat_map kept_row rs ≡ filter (λ (b : Brought). not (b.ino == r.ino)) bs → flat_map kept_row (r ∷ rs) ≡ bs
    whole others = ap (λ (ys : List Brought). ys ++ flat_map kept_row rs) first ∙ (ap (λ (ys : List Brought). filter (is_at r.ino) bs ++ ys) others ∙ parted r.ino bs climbs (low bs climbs same))

-- ---- what a tree knows climbs ----

below_at_most : (a b : Brought) → is_brought_below a b ≡ true → a.ino ≤ b.ino
below_at_most a b h = grind (arith, nat_tests)

climbs_known : (bs : List Brought) → Ascends bs → Climbs bs
climbs_known [] h = tt
climbs_known (b ∷ bs) h = (all bs h.0, climbs_known bs h.1)
  where
    all : (ys : List Brought) → AllByRecursion (λ (d : Brought). is_brought_below b d ≡ true) ys → Every (λ (y : Brought). b.ino ≤ y.ino) ys
    all [] k = tt
    all (y ∷ ys) k = (below_at_most b y k.0, all ys k.1)

-- ---- the vectors ----

module _ (c : Config) (t : List Line) (f : Frame) (tab : SyncTable) (fact : TableFact c t f tab) (files : StartedFiles c t f tab) where
  abbrev tree : TreeState
  tree = tree_of c f.epoch tab.group (entries t)

  group_is : tree.group ≡ tab.group
  group_is = tree_group_is c f.epoch tab.group (entries t)

  kept_so : (ino : ℕ) → kept_of (history c (entries t)) tree (file_in tree ino) ≡ kept_in c (entries t) f.epoch (record { group = tab.group; ino = ino })
  kept_so ino = ap (λ (g : ℕ). kept_of (history c (entries t)) tree (record { group = g; ino = ino })) group_is

  -- what is kept, of all files
  abbrev all_kept : List Brought
  all_kept = filter (is_kept (history c (entries t)) tree) tree.known

  kept_there : (ino : ℕ) → stamps_of all_kept ino ≡ kept_of (history c (entries t)) tree (file_in tree ino)
  kept_there ino = stamps_filter (is_kept (history c (entries t)) tree) (has_stamp (kept_of (history c (entries t)) tree (file_in tree ino))) ino
      (λ b e. ap (λ (n : ℕ). has_stamp (kept_of (history c (entries t)) tree (file_in tree n)) b.stamp) e) tree.known
      ∙ filter_again (λ (a : Stamp). not (graph.is_covered (history c (entries t)) (file_in tree ino) (stamps_of tree.known ino) a)) (stamps_of tree.known ino)

  rows_are : flat_map kept_row tab.files ≡ all_kept
  rows_are = rows_make tab.files fact.rise all_kept (climbs_filter (is_kept (history c (entries t)) tree) tree.known (climbs_known tree.known (known_ascends c (entries t) f.epoch tab.group)))
      (λ ino. files.kept_is ino ∙ (sym (kept_so ino) ∙ sym (kept_there ino)))

  vector_is : (r : FileRow) (v : VersionRow) → VersionFact c t (record { group = tab.group; ino = r.ino }) v → kept_vector r.ino v ≡ vector_kept (history c (entries t)) tree (one_at r.ino v.stamp)
  vector_is r v k = ap (λ (xs : List ℕ). record { ino = r.ino; vector = xs }) same
    where
      same : v.vector ≡ vector_of (history c (entries t)) (file_in tree r.ino) v.stamp
      same = ap (λ (x : VersionRow). x.vector) k.same ∙ (ap (λ (x : HeldVersion). x.vector) k.is_version.same
          ∙ (ap (vector_of (history c (entries t)) (record { group = tab.group; ino = r.ino })) (sym (ap (λ (x : VersionRow). x.stamp) k.same))
          ∙ ap (λ (g : ℕ). vector_of (history c (entries t)) (record { group = g; ino = r.ino }) v.stamp) (sym group_is)))

  row_vectors : (r : FileRow) (vs : List VersionRow) → Every (VersionFact c t (record { group = tab.group; ino = r.ino })) vs → map (kept_vector r.ino) vs ≡ map (vector_kept (history c (entries t)) tree) (map (one_at r.ino) (map row_stamp vs))
  row_vectors r [] k = refl
  row_vectors r (v ∷ vs) k = ap (λ (x : KeptVector). x ∷ map (kept_vector r.ino) vs) (vector_is r v k.0) ∙ ap (λ (xs : List KeptVector). vector_kept (history c (entries t)) tree (one_at r.ino v.stamp) ∷ xs) (row_vectors r vs k.1)

  all_vectors : (rs : List FileRow) → Every (FileFact c t f.epoch tab.group) rs → flat_map file_vectors rs ≡ map (vector_kept (history c (entries t)) tree) (flat_map kept_row rs)
  all_vectors [] k = refl
  all_vectors (r ∷ rs) k = ap (λ (xs : List KeptVector). xs ++ flat_map file_vectors rs) (row_vectors r r.kept k.0.keeps)
      ∙ (ap (λ (xs : List KeptVector). map (vector_kept (history c (entries t)) tree) (kept_row r) ++ xs) (all_vectors rs k.1)
      ∙ sym (map-append (vector_kept (history c (entries t)) tree) (kept_row r) (flat_map kept_row rs)))

  -- they are the same, in the same order
  pub vectors_agree : role.kept_vectors tab ≡ kept_vectors (history c (entries t)) (tree_of c f.epoch tab.group (entries t))
  vectors_agree = all_vectors tab.files fact.rows ∙ ap (map (vector_kept (history c (entries t)) tree)) rows_are
