-- The epoch that a site is in, and what it knows.
use Rattle.std.proofs.Common.{◌≡◌, ℕ, Bool, true, false, not, ◌&&◌, ◌||◌, cond, List, [], ◌∷◌, Option, None, Some, refl, ap, ◌∙◌}
use Rattle.std.specs.Prelude.{map, filter, Result, Ok, Err, IfOk}
use Rattle.std.specs.List.{find, list_any}
use Rattle.locus_ids.specs.declared.ids.FileId.{FileId}
use Rattle.locus_ids.specs.declared.ids.Stamp.{Stamp}
use Rattle.commit_graph.specs.Versions.{same_file, same_stamp}
use Rattle.tree_model.specs.State.{has_stamp}
use Rattle.locus_ids.specs.declared.ids.EpochId.{EpochId}
use Rattle.tree_model.specs.Epochs.{is_in}
use Rattle.promises.specs.Past.{Copy, Epoch, Past, site_at}
use Rattle.audit_row_parts.proofs.Homes.{any_found, any_nowhere, home_once}
use Rattle.audit_site_rows.specs.Rows.{AreApart}
use Rattle.audit_copies.specs.Below.{is_version_of}

-- the version is known where it is one of the candidates of its file
pub known_has : (f : FileId) (s : Stamp) (known : List Copy) → list_any (is_version_of (record { file = f; stamp = s })) known ≡ has_stamp (map (λ (v : Copy). v.stamp) (filter (λ (v : Copy). same_file v.file f) known)) s
known_has f s [] = refl
known_has f s (v ∷ vs) = at (known_has f s vs) (same_file v.file f)
  where
    at : list_any (is_version_of (record { file = f; stamp = s })) vs ≡ has_stamp (map (λ (w : Copy). w.stamp) (filter (λ (w : Copy). same_file w.file f) vs)) s → (b : Bool)
        → (b && same_stamp v.stamp s) || list_any (is_version_of (record { file = f; stamp = s })) vs ≡ has_stamp (map (λ (w : Copy). w.stamp) (cond b (v ∷ filter (λ (w : Copy). same_file w.file f) vs) (filter (λ (w : Copy). same_file w.file f) vs))) s
    at later true = ap (λ b. same_stamp v.stamp s || b) later
    at later false = later

-- what one epoch tells where it is the site's, the others don't
pub home_any : (p : Past) (site : ℕ) (home : Option EpochId) (epochs : List Epoch) (q : Epoch → Bool) (t : Epoch) → AreApart p.epochs → home ≡ (site_at p site).epoch → epochs ≡ p.epochs
    → Some t ≡ find (λ (u : Epoch). is_in home u.id) epochs → q t ≡ list_any (λ (u : Epoch). is_in (site_at p site).epoch u.id && q u) p.epochs
home_any p site home epochs q t apart eh ee e =
    any_found (λ (u : Epoch). is_in (site_at p site).epoch u.id) q p.epochs t (home_once p.epochs (site_at p site).epoch apart)
    (e ∙ ap (λ (h : Option EpochId). find (λ (u : Epoch). is_in h u.id) epochs) eh ∙ ap (find (λ (u : Epoch). is_in (site_at p site).epoch u.id)) ee)

pub home_none : (p : Past) (site : ℕ) (home : Option EpochId) (epochs : List Epoch) (q : Epoch → Bool) → home ≡ (site_at p site).epoch → epochs ≡ p.epochs
    → None ≡ find (λ (u : Epoch). is_in home u.id) epochs → false ≡ list_any (λ (u : Epoch). is_in (site_at p site).epoch u.id && q u) p.epochs
home_none p site home epochs q eh ee e =
    any_nowhere (λ (u : Epoch). is_in (site_at p site).epoch u.id) q p.epochs
    (e ∙ ap (λ (h : Option EpochId). find (λ (u : Epoch). is_in h u.id) epochs) eh ∙ ap (find (λ (u : Epoch). is_in (site_at p site).epoch u.id)) ee)

-- what holds unless a test passes
pub unless : (a b r : Bool) → a ≡ false → r ≡ b → r ≡ (not a && b)
unless false b r e h = h
unless true b r e h = cc

-- an answer that there may be is as another says
pub ok_as : {E : Type 0} (r : Result Bool E) (a b : Bool) → a ≡ b → IfOk r (λ x. x ≡ a) → IfOk r (λ x. x ≡ b)
ok_as (Ok x) a b e h = h ∙ e
ok_as (Err why) a b e h = tt
