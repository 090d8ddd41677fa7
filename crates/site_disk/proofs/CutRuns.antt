-- What the run has left of a boot that is cut off.
use Rattle.std.proofs.Common.{◌≡◌, ⊎_elim, ℕ, zero, suc, ◌+◌, ◌-◌, ◌*◌, ◌<◌, ◌≤◌, Bool, true, false, cond, List, [], ◌∷◌, ◌++◌, length, refl, sym, ◌∙◌, ap, subst, arith}
use Rattle.std.specs.Prelude.{map, not, nat_lt, Some, ◌&&◌, if◌then◌else◌}
use Rattle.std.proofs.lemmas.Bool.{false≢true, true≢false, lt-ltb, le-ltb, cases_lt}
use Rattle.locus_ids.specs.declared.ids.FileId.{FileId}
use Rattle.schedule_lines.specs.declared.line.Leave.TheVariants as leave
use Rattle.gate_switch.specs.Gates.{gate_left}
use Rattle.pack_slots.specs.Cutting.{closings_left}
use Rattle.site_label.specs.Cutting.{LabelState, raise_left, boot_left}
use Rattle.role_steps.specs.Tables.{without_row}
use Rattle.role_steps.specs.Views.{file_key}
use Rattle.role_steps.specs.declared.copies.FileCopy.{FileCopy}
use Rattle.the_run.specs.Disks.{Disk, Label, Armed, Cut, Stops, Fails, BootWrite, ClosesLosing, WritesBody, OpensHalf, ClosesOther, ClosesGate, Booted, Whole, CutOff, boots, boots_freely, boots_armed, boot_writes, written, file_number, gate_left as run_gate}
use Rattle.site_disk.specs.Image.{one_half}
use Rattle.site_disk.specs.Boots.{label_calls, label_left, files_left}
use Rattle.site_disk.specs.Run.{as_label, as_cut, cut_boot}
use Rattle.site_disk.proofs.Runs.{first_out, writes_counted}

-- a gate is left alike
pub gate_same : (how : Cut) (writing was to : Bool) → run_gate how writing was to ≡ gate_left (as_cut how) writing was to
gate_same (Stops leave.Old) writing was to = refl
gate_same (Stops leave.New) writing was to = refl
gate_same (Stops (leave.Byte byte)) writing was to = refl
gate_same Fails writing was to = refl

abbrev disk : List FileCopy → List FileId → ℕ → Bool → Disk
disk copies files boot both = record { copies = copies; both_open = files; label = record { boot = boot; both_open = both } }

opens_cut : (g h : Bool) → g ≡ h → (copies : List FileCopy) (files : List FileId) (boot : ℕ) (how : Cut)
    → CutOff (cond g (disk copies files (boot + 1) true) (disk copies files boot false)) how ≡ CutOff (disk copies files (cond h (boot + 1) boot) (h && true)) how
opens_cut true true e copies files boot how = refl
opens_cut false false e copies files boot how = refl
opens_cut true false e copies files boot how = absurd (true≢false e)
opens_cut false true e copies files boot how = absurd (false≢true e)

closes_cut : (g h : Bool) → g ≡ h → (copies : List FileCopy) (files : List FileId) (boot : ℕ) (how : Cut)
    → CutOff (cond (not g) (disk copies files boot false) (disk copies files boot true)) how ≡ CutOff (disk copies files boot h) how
closes_cut true true e copies files boot how = refl
closes_cut false false e copies files boot how = refl
closes_cut true false e copies files boot how = absurd (true≢false e)
closes_cut false true e copies files boot how = absurd (false≢true e)

-- ---- the gates of files ----

file_cut : (g h : Bool) → g ≡ h → (file : FileId) (files : List FileId) (d : Disk) (how : Cut) → d.both_open ≡ file ∷ files
    → CutOff (cond (not g) (written (ClosesGate file) d) d) how ≡ CutOff (record d { both_open = cond h (file ∷ files) files }) how
file_cut true true e file files d how is = (λ i. CutOff (record d { both_open = is i }) how)
file_cut false false e file files d how is =
    let out = ap (λ (l : List FileId). without_row file_number (file_key file) l) is ∙ first_out file files in
    (λ i. CutOff (record d { both_open = out i }) how)
file_cut true false e file files d how is = absurd (true≢false e)
file_cut false true e file files d how is = absurd (false≢true e)

gates_armed : (files : List FileId) (a : Armed) (left : ℕ) (d : Disk) → d.both_open ≡ files → left < 2 * length files
    → boots_armed a left (map ClosesGate files) d ≡ CutOff (record d { both_open = closings_left (as_cut a.how) left files }) a.how
gates_armed [] a left d is few = absurd (omega arith)
gates_armed (file ∷ files) a zero d is few = file_cut (run_gate a.how true true false) (gate_left (as_cut a.how) true true false) (gate_same a.how true true false) file files d a.how is
gates_armed (file ∷ files) a (suc zero) d is few = file_cut (run_gate a.how false true false) (gate_left (as_cut a.how) false true false) (gate_same a.how false true false) file files d a.how is
gates_armed (file ∷ files) a (suc (suc left)) d is few =
    gates_armed files a left (written (ClosesGate file) d) (ap (λ (l : List FileId). without_row file_number (file_key file) l) is ∙ first_out file files) (omega arith)

-- ---- the label ----

raise_armed : (a : Armed) (p : ℕ) (copies : List FileCopy) (files : List FileId) (boot : ℕ) (rest : List BootWrite) → p < 6
    → boots_armed a p (WritesBody ∷ OpensHalf ∷ ClosesOther ∷ rest) (disk copies files boot false) ≡ CutOff (record { copies = copies; both_open = files; label = as_label (raise_left (as_cut a.how) p boot) }) a.how
raise_armed a zero copies files boot rest lt = refl
raise_armed a (suc zero) copies files boot rest lt = refl
raise_armed a (suc (suc zero)) copies files boot rest lt = opens_cut (run_gate a.how true false true) (gate_left (as_cut a.how) true false true) (gate_same a.how true false true) copies files boot a.how
raise_armed a (suc (suc (suc zero))) copies files boot rest lt = opens_cut (run_gate a.how false false true) (gate_left (as_cut a.how) false false true) (gate_same a.how false false true) copies files boot a.how
raise_armed a (suc (suc (suc (suc zero)))) copies files boot rest lt = closes_cut (run_gate a.how true true false) (gate_left (as_cut a.how) true true false) (gate_same a.how true true false) copies files (boot + 1) a.how
raise_armed a (suc (suc (suc (suc (suc zero))))) copies files boot rest lt = closes_cut (run_gate a.how false true false) (gate_left (as_cut a.how) false true false) (gate_same a.how false true false) copies files (boot + 1) a.how
raise_armed a (suc (suc (suc (suc (suc (suc p)))))) copies files boot rest lt = absurd (omega arith)

losing_armed : (a : Armed) (p : ℕ) (copies : List FileCopy) (files : List FileId) (boot : ℕ) (rest : List BootWrite) → p < 2
    → boots_armed a p (ClosesLosing ∷ rest) (disk copies files boot true) ≡ CutOff (record { copies = copies; both_open = files; label = as_label (boot_left true (as_cut a.how) p boot) }) a.how
losing_armed a zero copies files boot rest lt = closes_cut (run_gate a.how true true false) (gate_left (as_cut a.how) true true false) (gate_same a.how true true false) copies files boot a.how
losing_armed a (suc zero) copies files boot rest lt = closes_cut (run_gate a.how false true false) (gate_left (as_cut a.how) false true false) (gate_same a.how false true false) copies files boot a.how
losing_armed a (suc (suc p)) copies files boot rest lt = absurd (omega arith)

-- ---- the whole boot ----

abbrev result_at : Bool → Armed → ℕ → List FileCopy → List FileId → ℕ → Bool → Booted
result_at both a left copies files boot within = CutOff (record {
  copies = copies;
  both_open = cond within files (closings_left (as_cut a.how) (left - label_calls both) files);
  label = as_label (cond within (boot_left both (as_cut a.how) left boot) (one_half (boot + 1)));
}) a.how

abbrev Right : Bool → Armed → List FileCopy → List FileId → ℕ → ℕ → Type 0
Right both a copies files boot left =
    boots_armed a left (cond both (ClosesLosing ∷ []) [] ++ (WritesBody ∷ OpensHalf ∷ ClosesOther ∷ map ClosesGate files)) (disk copies files boot both)
    ≡ result_at both a left copies files boot (nat_lt left (label_calls both))

six_on : (a : Armed) (q : ℕ) (copies : List FileCopy) (files : List FileId) (boot : ℕ) → q < 2 * length files → Right false a copies files boot (suc (suc (suc (suc (suc (suc q))))))
six_on a q copies files boot few =
    let left = suc (suc (suc (suc (suc (suc q))))) in
    let behind : nat_lt left 6 ≡ false = le-ltb left 6 (omega arith) in
    let e : q ≡ left - 6 = omega arith in
    gates_armed files a q (disk copies files (boot + 1) false) refl few
    ∙ ap (λ (k : ℕ). CutOff (disk copies (closings_left (as_cut a.how) k files) (boot + 1) false) a.how) e
    ∙ sym (ap (λ (b : Bool). result_at false a left copies files boot b) behind)

eight_on : (a : Armed) (q : ℕ) (copies : List FileCopy) (files : List FileId) (boot : ℕ) → q < 2 * length files → Right true a copies files boot (suc (suc (suc (suc (suc (suc (suc (suc q))))))))
eight_on a q copies files boot few =
    let left = suc (suc (suc (suc (suc (suc (suc (suc q))))))) in
    let behind : nat_lt left 8 ≡ false = le-ltb left 8 (omega arith) in
    let e : q ≡ left - 8 = omega arith in
    gates_armed files a q (disk copies files (boot + 1) false) refl few
    ∙ ap (λ (k : ℕ). CutOff (disk copies (closings_left (as_cut a.how) k files) (boot + 1) false) a.how) e
    ∙ sym (ap (λ (b : Bool). result_at true a left copies files boot b) behind)

whole : (both : Bool) (a : Armed) (left : ℕ) (copies : List FileCopy) (files : List FileId) (boot : ℕ) → left < label_calls both + 2 * length files → Right both a copies files boot left
whole false a left copies files boot few = ⊎_elim
    (λ (lt : left < 6). raise_armed a left copies files boot (map ClosesGate files) lt ∙ sym (ap (λ (b : Bool). result_at false a left copies files boot b) (lt-ltb left 6 lt)))
    (λ (ge : 6 ≤ left).
    let q = left - 6 in
    let e : left ≡ suc (suc (suc (suc (suc (suc q))))) = omega arith in
    subst (λ (k : ℕ). Right false a copies files boot k) (sym e) (six_on a q copies files boot (omega arith)))
    (cases_lt left 6)
whole true a left copies files boot few = ⊎_elim
    (λ (lt : left < 2). losing_armed a left copies files boot (WritesBody ∷ OpensHalf ∷ ClosesOther ∷ map ClosesGate files) lt ∙ sym (ap (λ (b : Bool). result_at true a left copies files boot b) (lt-ltb left 8 (omega arith))))
    (λ (ge : 2 ≤ left). ⊎_elim
    (λ (lt : left < 8).
    let p = left - 2 in
    let e : left ≡ suc (suc p) = omega arith in
    let within : nat_lt (suc (suc p)) 8 ≡ true = lt-ltb (suc (suc p)) 8 (omega arith) in
    subst (λ (k : ℕ). Right true a copies files boot k) (sym e)
    (raise_armed a p copies files boot (map ClosesGate files) (omega arith) ∙ sym (ap (λ (b : Bool). result_at true a (suc (suc p)) copies files boot b) within)))
    (λ (more : 8 ≤ left).
    let q = left - 8 in
    let e : left ≡ suc (suc (suc (suc (suc (suc (suc (suc q))))))) = omega arith in
    subst (λ (k : ℕ). Right true a copies files boot k) (sym e) (eight_on a q copies files boot (omega arith)))
    (cases_lt left 8))
    (cases_lt left 2)

pub cut_boots : (d : Disk) (a : Armed) → a.left < 2 * length (boot_writes d) → boots (Some a) d ≡ CutOff (cut_boot a d) a.how
cut_boots d a few = let e = writes_counted d in whole d.label.both_open a a.left d.copies d.both_open d.label.boot (omega arith)

-- ---- a boot that isn't cut off ----

armed_whole : (xs : List BootWrite) (a : Armed) (left : ℕ) (d : Disk) → 2 * length xs ≤ left
    → boots_armed a left xs d ≡ Whole (boots_freely xs d) (Some (record a { left = left - 2 * length xs }))
armed_whole [] a left d h =
    let e : left ≡ left - 2 * length {A = BootWrite} [] = omega arith in
    ap (λ (k : ℕ). Whole d (Some (record a { left = k }))) e
armed_whole (x ∷ xs) a zero d h = absurd (omega arith)
armed_whole (x ∷ xs) a (suc zero) d h = absurd (omega arith)
armed_whole (x ∷ xs) a (suc (suc left)) d h =
    let e : left - 2 * length xs ≡ suc (suc left) - 2 * length (x ∷ xs) = omega arith in
    armed_whole xs a left (written x d) (omega arith) ∙ ap (λ (k : ℕ). Whole (boots_freely xs (written x d)) (Some (record a { left = k }))) e

pub whole_boots : (d : Disk) (a : Armed) → 2 * length (boot_writes d) ≤ a.left → boots (Some a) d ≡ Whole (boots_freely (boot_writes d) d) (Some (record a { left = a.left - 2 * length (boot_writes d) }))
whole_boots d a h = armed_whole (boot_writes d) a a.left d h
