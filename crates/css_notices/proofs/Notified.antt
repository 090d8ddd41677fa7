-- The notices of a file are those of its kept versions.
use Rattle.std.proofs.Common.{◌≡◌, ℕ, List, [], ◌∷◌, Option, Some, None, refl}
use Rattle.role_steps.specs.Views.{Frame}
use Rattle.role_steps.specs.Versions.{holders_of, chosen_site}
use Rattle.role_steps.specs.Notices.{notices_of, notices_by, file_notices}
use Rattle.role_steps.specs.declared.synchronizing.FileRow.{FileRow}
use Rattle.role_steps.specs.declared.synchronizing.VersionRow.{VersionRow}
use Rattle.css_notices.specs.Noticed.{notices_to, notices_from, notices_kept}

from_holder : (f : Frame) (group : ℕ) (r : FileRow) (v : VersionRow) (o : Option ℕ) → notices_from f group r v o (holders_of r v.stamp) ≡ notices_of f group r v o
unfolding notices_to
from_holder f group r v None = refl
from_holder f group r v (Some holder) = refl

by_kept : (f : Frame) (group : ℕ) (r : FileRow) (vs : List VersionRow) → notices_kept f group r vs ≡ notices_by f group r vs
by_kept f group r [] = refl
by_kept f group r (v ∷ []) = from_holder f group r v (chosen_site f.me f.me (holders_of r v.stamp))
by_kept f group r (v ∷ w ∷ others) = refl

pub kept_notices : (f : Frame) (group : ℕ) (r : FileRow) → notices_kept f group r (r.kept) ≡ file_notices f group r
kept_notices f group r = by_kept f group r (r.kept)
