-- A try of adoption where one pull could be adopted: it adopts that or another one, and leaves what is pulled of the first. And a pull over
-- the copy that its site has stays in any try, or is adopted.
use Rattle.std.proofs.Common.{Bool, List, None, Option, Some, [], ap, false, inl, inr, refl, subst, sym, true, ℕ, ◌==◌, ◌∙◌, ◌∷◌, ◌≡◌, ◌⊎◌}
use Rattle.calm_laws.proofs.Convergence.Lists.{row_without}
use Rattle.calm_laws.proofs.Convergence.Vectors.{above_is, above_through, adopted_low, copy_alike, copy_mine, copy_other, number_test}
use Rattle.calm_laws.specs.Convergence.Offers.{is_above}
use Rattle.locus_ids.specs.declared.ids.FileId.{FileId}
use Rattle.row_laws.proofs.Orderly.Numbers.{left_without}
use Rattle.role_steps.proofs.of_plain_facts.Numbers.{equal}
use Rattle.role_steps.proofs.of_plain_facts.Options.{none_some, some_same}
use Rattle.role_steps.proofs.of_plain_facts.Tests.{both_true, true_false}
use Rattle.role_steps.specs.Adoption.{adopts_first, adopts_pull, content_under, copy_adopted, fits_own, is_ready, notes_own, notes_own_at, table_group, with_adopted, without_pull}
use Rattle.role_steps.specs.Pulling.{is_complete, is_over, pull_key, pull_of, wanted_pages}
use Rattle.role_steps.specs.Storage.{copy_of, with_version}
use Rattle.role_steps.specs.Tables.{row, without_row}
use Rattle.role_steps.specs.Versions.{is_below}
use Rattle.role_steps.specs.Views.{Frame, Outcome, SiteView, Store, file_key}
use Rattle.role_steps.specs.declared.pulls.Pull.{Pull}
use Rattle.role_steps.specs.declared.synchronizing.SyncTable.{SyncTable}
use Rattle.the_run.specs.Kept.{Among}

-- ---- what the adopting site notes ----

pub record Notes (v : SiteView) (n : SiteView) : Type 0 where
  pub store : n.store ≡ v.store
  pub pulls : n.pulls ≡ v.pulls

pub notes : (f : Frame) (p : Pull) (v : SiteView) → Notes v (notes_own f p v)
notes f p v = by_table (row table_group p.file.group v.tables)
  where
    by_table : (o : Option SyncTable) → Notes v (notes_own_at f p o v)
    by_table None = record { store = refl; pulls = refl }
    by_table (Some t) = record { store = refl; pulls = refl }

-- ---- one adoption ----

-- Of all these pulls one was adopted. The pull that could have been is it, or is still there.
pub record Adopts (all : List Pull) (v : SiteView) (k : ℕ) (could : Pull) (o : Outcome SiteView) : Type 0 where
  pub adopted : Pull
  pub there : Among adopted all
  pub whole : is_complete adopted ≡ true
  pub above : is_above adopted.vector (copy_of v.store adopted.file) ≡ true
  pub own : List ℕ
  pub store : o.view.store ≡ with_version (copy_adopted adopted own) (wanted_pages adopted) v.store
  pub pulls : (y : Pull) → Among y o.view.pulls → Among y all
  pub which : (adopted ≡ could) ⊎ (((pull_key adopted == k) ≡ false) × (row pull_key k o.view.pulls ≡ Some could))

adopted_one : (f : Frame) (all : List Pull) (p : Pull) (v : SiteView) (k : ℕ) (could : Pull) → Among p all → is_ready v p ≡ true → fits_own p (copy_of v.store p.file) ≡ true → ((y : Pull) → Among y v.pulls → Among y all) →
    (p ≡ could) ⊎ (((pull_key p == k) ≡ false) × (row pull_key k (without_row pull_key (pull_key p) v.pulls) ≡ Some could)) → Adopts all v k could (adopts_pull f p v)
adopted_one f all p v k could there ready fits pulls which = record {
  adopted = p;
  there = there;
  whole = (both_true (is_complete p) _ ready).0;
  above = sym (above_is p (copy_of v.store p.file)) ∙ (both_true (is_over (copy_of v.store p.file) p.base) _ fits).1;
  own = content_under v p;
  store = n.store;
  pulls = λ y a. pulls y (left_without pull_key (pull_key p) v.pulls y (subst (λ (xs : List Pull). Among y xs) n.pulls a));
  which = over which;
}
  where
    mid : SiteView
    mid = with_adopted p v

    n : Notes mid (notes_own f p mid)
    n = notes f p mid

    over : (p ≡ could) ⊎ (((pull_key p == k) ≡ false) × (row pull_key k (without_row pull_key (pull_key p) v.pulls) ≡ Some could)) → (p ≡ could) ⊎ (((pull_key p == k) ≡ false) × (row pull_key k (notes_own f p mid).pulls ≡ Some could))
    over (inl e) = inl e
    over (inr h) = inr (h.0, ap (λ (xs : List Pull). row pull_key k xs) n.pulls ∙ h.1)

pub tried : (f : Frame) (all ps : List Pull) (v : SiteView) (k : ℕ) (could : Pull) → ((y : Pull) → Among y ps → Among y all) → ((y : Pull) → Among y v.pulls → Among y all) → row pull_key k ps ≡ Some could → row pull_key k v.pulls ≡ Some could →
    is_ready v could ≡ true → fits_own could (copy_of v.store could.file) ≡ true → Adopts all v k could (adopts_first f ps v)
tried f all [] v k could among pulls first there ready fits = absurd (none_some could first)
tried f all (p ∷ ps) v k could among pulls first there ready fits =
    by_key (pull_key p == k) refl first
    (λ rest. tried f all ps v k could (λ y a. among y (inr a)) pulls rest there ready fits)
    (λ rest still. tried f all ps (without_pull p v) k could (λ y a. among y (inr a)) (λ y a. pulls y (left_without pull_key (pull_key p) v.pulls y a)) rest still ready fits)
  where
    Later : Type 0
    Later = row pull_key k ps ≡ Some could → Adopts all v k could (adopts_first f ps v)

    Dropped : Type 0
    Dropped = row pull_key k ps ≡ Some could → row pull_key k (without_row pull_key (pull_key p) v.pulls) ≡ Some could → Adopts all (without_pull p v) k could (adopts_first f ps (without_pull p v))

    later : (pull_key p == k) ≡ false → row pull_key k ps ≡ Some could → Later → Dropped → (b : Bool) → is_ready v p ≡ b → Adopts all v k could (elim b [ true ↦ elim (fits_own p (copy_of v.store p.file)) [ true ↦ adopts_pull f p v | false ↦ adopts_first f ps (without_pull p v) ] | false ↦ adopts_first f ps v ])
    later ne rest on off false r = on rest
    later ne rest on off true r = by_fit (fits_own p (copy_of v.store p.file)) refl
      where
        still : row pull_key k (without_row pull_key (pull_key p) v.pulls) ≡ Some could
        still = row_without pull_key (pull_key p) k v.pulls ne ∙ there

        by_fit : (b : Bool) → fits_own p (copy_of v.store p.file) ≡ b → Adopts all v k could (elim b [ true ↦ adopts_pull f p v | false ↦ adopts_first f ps (without_pull p v) ])
        by_fit true e = adopted_one f all p v k could (among p (inl refl)) r e pulls (inr (ne, still))
        by_fit false e = (let h : Adopts all (without_pull p v) k could (adopts_first f ps (without_pull p v)) = off rest still in record { adopted = h.adopted; there = h.there; whole = h.whole; above = h.above; own = h.own; store = h.store; pulls = h.pulls; which = h.which })

    mine : p ≡ could → (a b : Bool) → is_ready v p ≡ a → fits_own p (copy_of v.store p.file) ≡ b → Adopts all v k could (elim a [ true ↦ elim b [ true ↦ adopts_pull f p v | false ↦ adopts_first f ps (without_pull p v) ] | false ↦ adopts_first f ps v ])
    mine is false b r e = absurd (true_false (sym ready ∙ (ap (is_ready v) (sym is) ∙ r)))
    mine is true false r e = absurd (true_false (sym fits ∙ (ap (λ (q : Pull). fits_own q (copy_of v.store q.file)) (sym is) ∙ e)))
    mine is true true r e = adopted_one f all p v k could (among p (inl refl)) r e pulls (inl is)

    by_key : (b : Bool) → (pull_key p == k) ≡ b → ◌≡◌ {A = Option Pull} (elim b [ true ↦ Some p | false ↦ row pull_key k ps ]) (Some could) → Later → Dropped → Adopts all v k could (adopts_first f (p ∷ ps) v)
    by_key true e h on off = mine (some_same p could h) (is_ready v p) (fits_own p (copy_of v.store p.file)) refl refl
    by_key false e h on off = later e h on off (is_ready v p) refl

-- ---- any try ----

-- what is pulled after it was pulled before
pub left_pulls : (f : Frame) (ps : List Pull) (v : SiteView) (y : Pull) → Among y (adopts_first f ps v).view.pulls → Among y v.pulls
left_pulls f [] v y a = a
left_pulls f (p ∷ ps) v y a = by_ready (is_ready v p) (left_pulls f ps v y) (λ b. left_without pull_key (pull_key p) v.pulls y (left_pulls f ps (without_pull p v) y b)) a
  where
    Was : Outcome SiteView → Type 0
    Was o = Among y o.view.pulls → Among y v.pulls

    by_fit : (b : Bool) → Was (adopts_first f ps (without_pull p v)) → Was (elim b [ true ↦ adopts_pull f p v | false ↦ adopts_first f ps (without_pull p v) ])
    by_fit true k b = left_without pull_key (pull_key p) v.pulls y (subst (λ (xs : List Pull). Among y xs) (notes f p (with_adopted p v)).pulls b)
    by_fit false k b = k b

    by_ready : (b : Bool) → Was (adopts_first f ps v) → Was (adopts_first f ps (without_pull p v)) → Was (elim b [ true ↦ elim (fits_own p (copy_of v.store p.file)) [ true ↦ adopts_pull f p v | false ↦ adopts_first f ps (without_pull p v) ] | false ↦ adopts_first f ps v ])
    by_ready true h k = by_fit (fits_own p (copy_of v.store p.file)) k
    by_ready false h k = h

-- the pull of a file that fits its copy: it was adopted, or it stays, and the copy too
abbrev pub StaysOrLow : FileId → Pull → SiteView → SiteView → Type 0
StaysOrLow file p v u = (is_above p.vector (copy_of u.store file) ≡ false) ⊎ ((pull_of u.pulls file ≡ Some p) × (copy_of u.store file ≡ copy_of v.store file))

pub tries_stay : (f : Frame) (ps : List Pull) (v : SiteView) (file : FileId) (p : Pull) → p.file ≡ file → ((q : Pull) → Among q ps → pull_key q ≡ file_key file → q ≡ p) → pull_of v.pulls file ≡ Some p → fits_own p (copy_of v.store file) ≡ true → StaysOrLow file p v (adopts_first f ps v).view
tries_stay f [] v file p is one there fits = inr (there, refl)
tries_stay f (q ∷ qs) v file p is one there fits = by_ready (is_ready v q) (tries_stay f qs v file p is (λ y a. one y (inr a)) there fits) (λ still. tries_stay f qs (without_pull q v) file p is (λ y a. one y (inr a)) still fits)
  where
    Stays : Outcome SiteView → Type 0
    Stays o = StaysOrLow file p v o.view

    still : (pull_key q == file_key file) ≡ false → pull_of (without_pull q v).pulls file ≡ Some p
    still ne = row_without pull_key (pull_key q) (file_key file) v.pulls ne ∙ there

    mid : SiteView
    mid = with_adopted q v

    n : Notes mid (notes_own f q mid)
    n = notes f q mid

    adopted : ((pull_key q == file_key file) ≡ true) ⊎ ((pull_key q == file_key file) ≡ false) → Stays (adopts_pull f q v)
    adopted (inl e) = inl (ap (λ (x : Store). is_above p.vector (copy_of x file)) n.store ∙ subst (λ (y : Pull). is_above p.vector (copy_of (with_version (copy_adopted y (content_under v q)) (wanted_pages q) v.store) file) ≡ false) (sym same)
        (subst (λ (g : FileId). is_above p.vector (copy_of (with_version (copy_adopted p (content_under v q)) (wanted_pages q) v.store) g) ≡ false) is (adopted_low p (content_under v q) (wanted_pages q) v.store)))
      where
        same : q ≡ p
        same = one q (inl refl) (equal (pull_key q) (file_key file) e)
    adopted (inr e) = inr (ap (λ (xs : List Pull). pull_of xs file) n.pulls ∙ still e, ap (λ (x : Store). copy_of x file) n.store ∙ copy_other q (content_under v q) (wanted_pages q) v.store file e)

    dropped : (pull_of (without_pull q v).pulls file ≡ Some p → Stays (adopts_first f qs (without_pull q v))) → fits_own q (copy_of v.store q.file) ≡ false → ((pull_key q == file_key file) ≡ true) ⊎ ((pull_key q == file_key file) ≡ false) → Stays (adopts_first f qs (without_pull q v))
    dropped then unfit (inl e) = absurd (true_false (sym fits ∙ (ap (λ (y : Pull). fits_own y (copy_of v.store file)) (sym same) ∙ (ap (fits_own q) (copy_alike v.store file q.file (sym (equal (pull_key q) (file_key file) e))) ∙ unfit))))
      where
        same : q ≡ p
        same = one q (inl refl) (equal (pull_key q) (file_key file) e)
    dropped then unfit (inr e) = then (still e)

    by_fit : (b : Bool) → fits_own q (copy_of v.store q.file) ≡ b → (pull_of (without_pull q v).pulls file ≡ Some p → Stays (adopts_first f qs (without_pull q v))) → Stays (elim b [ true ↦ adopts_pull f q v | false ↦ adopts_first f qs (without_pull q v) ])
    by_fit true e then = adopted (number_test (pull_key q) (file_key file))
    by_fit false e then = dropped then e (number_test (pull_key q) (file_key file))

    by_ready : (b : Bool) → Stays (adopts_first f qs v) → (pull_of (without_pull q v).pulls file ≡ Some p → Stays (adopts_first f qs (without_pull q v))) → Stays (elim b [ true ↦ elim (fits_own q (copy_of v.store q.file)) [ true ↦ adopts_pull f q v | false ↦ adopts_first f qs (without_pull q v) ] | false ↦ adopts_first f qs v ])
    by_ready true later then = by_fit (fits_own q (copy_of v.store q.file)) refl then
    by_ready false later then = later

-- copies only rise: what isn't above the copy of a file isn't above the one after
pub tries_low : (f : Frame) (ps : List Pull) (v : SiteView) (file : FileId) (vector : List ℕ) → is_above vector (copy_of v.store file) ≡ false → is_above vector (copy_of (adopts_first f ps v).view.store file) ≡ false
tries_low f [] v file vector low = low
tries_low f (q ∷ qs) v file vector low = by_ready (is_ready v q) (tries_low f qs v file vector low) (tries_low f qs (without_pull q v) file vector low)
  where
    Low : Outcome SiteView → Type 0
    Low o = is_above vector (copy_of o.view.store file) ≡ false

    mid : SiteView
    mid = with_adopted q v

    n : Notes mid (notes_own f q mid)
    n = notes f q mid

    rises : fits_own q (copy_of v.store q.file) ≡ true → file_key q.file ≡ file_key file → (b : Bool) → is_below q.vector vector ≡ b → is_below q.vector vector ≡ false
    rises fits key false e = e
    rises fits key true e = absurd (true_false (sym (above_through q.vector vector (copy_of v.store file)
        (ap (is_above q.vector) (copy_alike v.store file q.file (sym key)) ∙ (sym (above_is q (copy_of v.store q.file)) ∙ (both_true (is_over (copy_of v.store q.file) q.base) _ fits).1)) e) ∙ low))

    adopted : fits_own q (copy_of v.store q.file) ≡ true → ((pull_key q == file_key file) ≡ true) ⊎ ((pull_key q == file_key file) ≡ false) → Low (adopts_pull f q v)
    adopted fits (inl e) =
        let key : file_key q.file ≡ file_key file = equal (pull_key q) (file_key file) e in
        ap (λ (x : Store). is_above vector (copy_of x file)) n.store ∙ (ap (is_above vector) (copy_mine q (content_under v q) (wanted_pages q) v.store file key) ∙ rises fits key (is_below q.vector vector) refl)
    adopted fits (inr e) = ap (λ (x : Store). is_above vector (copy_of x file)) n.store ∙ (ap (is_above vector) (copy_other q (content_under v q) (wanted_pages q) v.store file e) ∙ low)

    by_fit : (b : Bool) → fits_own q (copy_of v.store q.file) ≡ b → Low (adopts_first f qs (without_pull q v)) → Low (elim b [ true ↦ adopts_pull f q v | false ↦ adopts_first f qs (without_pull q v) ])
    by_fit true e later = adopted e (number_test (pull_key q) (file_key file))
    by_fit false e later = later

    by_ready : (b : Bool) → Low (adopts_first f qs v) → Low (adopts_first f qs (without_pull q v)) → Low (elim b [ true ↦ elim (fits_own q (copy_of v.store q.file)) [ true ↦ adopts_pull f q v | false ↦ adopts_first f qs (without_pull q v) ] | false ↦ adopts_first f qs v ])
    by_ready true later dropped = by_fit (fits_own q (copy_of v.store q.file)) refl dropped
    by_ready false later dropped = later
