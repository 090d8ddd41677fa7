-- The packs stand with what was remembered of a copy that was stored.
use Rattle.std.proofs.Common.{◌≡◌, ◌≢◌, inl, inr, ⊎_elim, ◌∙◌, ◌==◌, ℕ, Bool, true, false, List, Option, Some, ap, sym, subst, arith}
use Rattle.std.proofs.lemmas.Bool.Decides.{nat_tests}
use Rattle.locus_ids.specs.declared.ids.FileId.{FileId}
use Rattle.disk_model.specs.Disk.{Moment}
use Rattle.pack_layout.specs.of_stored_versions.declared.new_version.NewVersion.{NewVersion}
use Rattle.role_steps.specs.Tables.{row, with_row}
use Rattle.role_steps.specs.Views.{file_key}
use Rattle.role_steps.specs.Storage.{content_of, copy_key}
use Rattle.role_steps.specs.declared.copies.FileCopy.{FileCopy}
use Rattle.role_steps.proofs.Rows.{row_same, row_other}
use Rattle.site_packs.specs.Copies.{copies_on}
use Rattle.site_packs.specs.Live.{IsNoted, MarkedBy, is_all_live, is_marked}
use Rattle.site_packs.specs.Packs.{PacksState, AreFound, AreLive, SamePlaces, Stand, copy_at, groups_of}
use Rattle.site_packs.specs.Committing.{copy_made}

-- what a mark says of a file's new content
pub noted_of : (old : List Bool) (file : FileId) (content : List ℕ) (mark : Bool) → (mark ≡ true → is_all_live content ≡ true) → (other : FileId) → MarkedBy old file mark other → IsNoted old file content other
noted_of old file content mark is other h = ⊎_elim
    (λ (own : (file_key file ≡ file_key other) × (mark ≡ true)). inl (own.0, is own.1))
    (λ (rest : (file_key file ≢ file_key other) × (is_marked old other ≡ true)). inr rest)
    h

differ : (a b : ℕ) → a ≢ b → (a == b) ≡ false
differ a b ne = grind (arith, nat_tests)

-- the packs are at the same places
pub same_places : (p q r : PacksState) → SamePlaces p q → r ≡ record q { live = r.live } → SamePlaces p r
same_places p q r places same = record {
  site = ap (λ (x : PacksState). x.site) same ∙ places.site;
  groups = ap (λ (x : PacksState). groups_of x) same ∙ places.groups;
}

module _ (p q r : PacksState) (image : List ℕ) (now : Moment) (file : FileId) (given : NewVersion) (content : List ℕ) (places : SamePlaces p q) (marks : q.live ≡ p.live) (same : r ≡ record q { live = r.live })
    (copies : copies_on (groups_of p) now.seen ≡ with_row copy_key (copy_made file given content) (copies_on (groups_of p) image)) (live : AreLive p image) (noted : (other : FileId) → is_marked r.live other ≡ true → IsNoted q.live file content other) where
  -- the copy of a file is found among the new ones
  found : (other : FileId) → copy_at r now.seen other ≡ row copy_key (file_key other) (with_row copy_key (copy_made file given content) (copies_on (groups_of p) image))
  found other = ap (λ (gs : List ℕ). row copy_key (file_key other) (copies_on gs now.seen)) (same_places p q r places same).groups ∙ ap (λ (xs : List FileCopy). row copy_key (file_key other) xs) copies

  each : (other : FileId) → is_marked r.live other ≡ true → is_all_live (content_of (copy_at r now.seen other)) ≡ true
  each other e = ⊎_elim
      (λ (own : (file_key file ≡ file_key other) × (is_all_live content ≡ true)).
      let here : copy_at r now.seen other ≡ Some (copy_made file given content) = found other ∙ (ap (λ (k : ℕ). row copy_key k (with_row copy_key (copy_made file given content) (copies_on (groups_of p) image))) (sym own.0) ∙ row_same copy_key (copy_made file given content) (copies_on (groups_of p) image)) in
      ap (λ (o : Option FileCopy). is_all_live (content_of o)) here ∙ own.1)
      (λ (rest : (file_key file ≢ file_key other) × (is_marked q.live other ≡ true)).
      let there : copy_at r now.seen other ≡ copy_at p image other = found other ∙ row_other copy_key (copy_made file given content) (file_key other) (copies_on (groups_of p) image) (differ (file_key file) (file_key other) rest.0) in
      ap (λ (o : Option FileCopy). is_all_live (content_of o)) there ∙ live.each other (ap (λ (m : List Bool). is_marked m other) (sym marks) ∙ rest.1))
      (noted other e)

  pub stand_noted : AreFound q.packs now → Stand r now
  stand_noted are = record {
    settled = are.settled;
    shown = (subst (λ (x : PacksState). AreFound x.packs now) (sym same) are).shown;
    live = record { each = each };
  }
