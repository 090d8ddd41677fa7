-- What a format and a boot give in the run.
use Rattle.std.proofs.Common.{◌≡◌, ℕ, suc, ◌+◌, ◌*◌, Bool, true, false, cond, List, [], ◌∷◌, ◌++◌, length, refl, ap, ◌∙◌, arith}
use Rattle.std.specs.Prelude.{map, if◌then◌else◌}
use Rattle.std.proofs.lemmas.Bool.{eq-eqb}
use Rattle.locus_ids.specs.declared.config.Config.{Config}
use Rattle.locus_ids.specs.declared.ids.FileId.{FileId}
use Rattle.role_steps.specs.Tables.{without_row}
use Rattle.role_steps.specs.Views.{file_key}
use Rattle.the_run.specs.Disks.{Disk, ClosesLosing, WritesBody, OpensHalf, ClosesOther, ClosesGate, one_label, written, boot_writes, boots_freely, file_number}
use Rattle.the_run.specs.Worlds.{formatted}
use Rattle.site_packs.specs.Packs.{groups_at}
use Rattle.site_packs.specs.Mounting.{new_copies}

pub formatted_same : (c : Config) (site : ℕ) → new_copies c site ≡ formatted c site
unfolding groups_at
formatted_same c site = refl

-- what a boot leaves
abbrev pub booted : Disk → Disk
booted d = record { copies = d.copies; both_open = []; label = one_label (d.label.boot + 1) }

pub first_out : (file : FileId) (files : List FileId) → without_row file_number (file_key file) (file ∷ files) ≡ files
first_out file files = ap (λ (b : Bool). elim b [ true ↦ files | false ↦ file ∷ without_row file_number (file_key file) files ]) (eq-eqb (file_key file) (file_key file) refl)

gates_closed : (files : List FileId) (d : Disk) → d.both_open ≡ files → boots_freely (map ClosesGate files) d ≡ record d { both_open = [] }
gates_closed [] d is = (λ i. record d { both_open = is i })
gates_closed (file ∷ files) d is =
    gates_closed files (written (ClosesGate file) d) (ap (λ (l : List FileId). without_row file_number (file_key file) l) is ∙ first_out file files)

by_label : (b : Bool) (d : Disk) → boots_freely (cond b (ClosesLosing ∷ []) [] ++ (WritesBody ∷ OpensHalf ∷ ClosesOther ∷ map ClosesGate d.both_open)) d ≡ booted d
by_label true d = gates_closed d.both_open (record d { label = one_label (d.label.boot + 1) }) refl
by_label false d = gates_closed d.both_open (record d { label = one_label (d.label.boot + 1) }) refl

pub boots_whole : (d : Disk) → boots_freely (boot_writes d) d ≡ booted d
boots_whole d = by_label d.label.both_open d

map_long : (files : List FileId) → length (map ClosesGate files) ≡ length files
map_long [] = refl
map_long (file ∷ files) = ap suc (map_long files)

calls_by : (b : Bool) (files : List FileId) → 2 * length (cond b (ClosesLosing ∷ []) [] ++ (WritesBody ∷ OpensHalf ∷ ClosesOther ∷ map ClosesGate files)) ≡ (if b then 8 else 6) + 2 * length files
calls_by true files = let e = map_long files in omega arith
calls_by false files = let e = map_long files in omega arith

pub writes_counted : (d : Disk) → 2 * length (boot_writes d) ≡ (if d.label.both_open then 8 else 6) + 2 * length d.both_open
writes_counted d = calls_by d.label.both_open d.both_open
