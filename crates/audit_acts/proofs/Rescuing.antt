-- What a mend makes, and whether one is wanted, by the kept versions of removed entries' files.
use Rattle.std.proofs.Common.{◌≡◌, ℕ, Bool, List, [], map, ap, ◌∙◌}
use Rattle.locus_ids.specs.declared.ids.FileId.{FileId}
use Rattle.locus_ids.specs.declared.ids.Stamp.{Stamp}
use Rattle.commit_graph.specs.declared.history.Version.{Version}
use Rattle.commit_graph.specs.Versions.{content_of}
use Rattle.dir_format.specs.declared.entry.Entry.{Entry}
use Rattle.dir_format.specs.Contents.{entries_of}
use Rattle.dir_format.specs.Grammar.{dir_bytes}
use Rattle.dir_reconcile.specs.declared.kept.KeptVector.{KeptVector}
use Rattle.dir_reconcile.specs.Rescues.{rescue_wanted, rescued}
use Rattle.tree_model.specs.Mending.{joined_all}
use Rattle.promises.specs.Past.{Copy, kept_in}
use Rattle.promises.specs.Tree.{join_of_kept, kept_vectors, mended, wants_rescue}
use Rattle.audit_acts.specs.Knowing.{knowing, of_history, vectors_removed}
use Rattle.audit_acts.proofs.Asking.{rescued_alike, wanted_as_all}

module _ (h : List Version) (known : List Copy) (f : FileId) (kept : List Stamp) (joined ds : List Entry) (vectors : List KeptVector) where
  is_join : kept ≡ kept_in (of_history h) (knowing known []) f → joined ≡ joined_all (map (λ s. entries_of (content_of h f s)) kept) → joined ≡ join_of_kept (of_history h) (knowing known []) f
  is_join k j = j ∙ ap (λ ss. joined_all (map (λ s. entries_of (content_of h f s)) ss)) k

  pub mended_so : (bytes : List ℕ) → kept ≡ kept_in (of_history h) (knowing known []) f → joined ≡ joined_all (map (λ s. entries_of (content_of h f s)) kept) → ds ≡ joined → vectors ≡ vectors_removed h known f.group ds
      → bytes ≡ dir_bytes (rescued joined vectors) → bytes ≡ mended (of_history h) (knowing known []) f
  mended_so bytes k j d v b =
      b ∙ ap dir_bytes (ap (rescued joined) (v ∙ ap (vectors_removed h known f.group) d) ∙ rescued_alike h known f.group joined
      ∙ ap (λ es. rescued es (kept_vectors (of_history h) (knowing known []) f.group)) (is_join k j))

  pub wanted_so : (wants : Bool) → kept ≡ kept_in (of_history h) (knowing known []) f → joined ≡ joined_all (map (λ s. entries_of (content_of h f s)) kept) → ds ≡ joined → vectors ≡ vectors_removed h known f.group ds
      → wants ≡ rescue_wanted joined vectors → wants ≡ wants_rescue (of_history h) (knowing known []) f
  wanted_so wants k j d v w =
      w ∙ ap (rescue_wanted joined) (v ∙ ap (vectors_removed h known f.group) d) ∙ wanted_as_all h known f.group joined
      ∙ ap (λ es. rescue_wanted es (kept_vectors (of_history h) (knowing known []) f.group)) (is_join k j)
