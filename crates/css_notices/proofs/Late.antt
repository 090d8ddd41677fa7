-- A file without a member that lags has no notice.
use Rattle.std.proofs.Common.{◌≡◌, ℕ, Bool, true, false, not, List, [], ◌∷◌, ◌++◌, filter, map, Option, Some, None, refl, sym, ap, ◌∙◌}
use Rattle.std.specs.List.{flat_map, list_any}
use Rattle.role_steps.specs.Views.{Frame, members_of}
use Rattle.role_steps.specs.Versions.{chosen_site, holders_of, is_among}
use Rattle.role_steps.specs.Notices.{file_notices, lagging, notice, notices_by, notices_of}
use Rattle.role_steps.specs.declared.synchronizing.FileRow.{FileRow}
use Rattle.role_steps.specs.declared.synchronizing.VersionRow.{VersionRow}
use Rattle.css_versions.specs.Lists.{lags, lags_by}

none_passes : (p : ℕ → Bool) (xs : List ℕ) → list_any p xs ≡ false → filter p xs ≡ []
none_passes p [] h = refl
none_passes p (x ∷ xs) h = by_test (none_passes p xs) (p x) refl where
  by_test : (list_any p xs ≡ false → filter p xs ≡ []) → (b : Bool) → p x ≡ b → filter p (x ∷ xs) ≡ []
  by_test later true e = let all : list_any p (x ∷ xs) ≡ true = rw e refl in absurd (cc)
  by_test later false e = let rest : list_any p (x ∷ xs) ≡ list_any p xs = rw e refl in rw e (later (sym rest ∙ h))

none_from : (f : Frame) (group : ℕ) (r : FileRow) (v : VersionRow) (o : Option ℕ) → lagging f r (holders_of r v.stamp) ≡ [] → notices_of f group r v o ≡ []
none_from f group r v None h = refl
none_from f group r v (Some holder) h = ap (map (notice f group r v holder)) h

none_by : (f : Frame) (group : ℕ) (r : FileRow) (vs : List VersionRow) → lags_by f.members r vs ≡ false → notices_by f group r vs ≡ []
none_by f group r [] h = refl
none_by f group r (v ∷ []) h = none_from f group r v (chosen_site f.me f.me (holders_of r v.stamp)) (none_passes (λ s. not (is_among s (holders_of r v.stamp))) (members_of f.members r.set) h)
none_by f group r (v ∷ w ∷ others) h = refl

-- so those of the files that have one are all notices
pub late_notices : (f : Frame) (group : ℕ) (rows : List FileRow) → flat_map (file_notices f group) (filter (lags f.members) rows) ≡ flat_map (file_notices f group) rows
late_notices f group [] = refl
late_notices f group (r ∷ rows) = by_test (late_notices f group rows) (lags f.members r) refl where
  by_test : flat_map (file_notices f group) (filter (lags f.members) rows) ≡ flat_map (file_notices f group) rows → (b : Bool) → lags f.members r ≡ b → flat_map (file_notices f group) (filter (lags f.members) (r ∷ rows)) ≡ flat_map (file_notices f group) (r ∷ rows)
  by_test ih true e = rw e (ap (λ ps. file_notices f group r ++ ps) ih)
  by_test ih false e = rw e (ih ∙ sym (ap (λ ps. ps ++ flat_map (file_notices f group) rows) (none_by f group r r.kept e)))
