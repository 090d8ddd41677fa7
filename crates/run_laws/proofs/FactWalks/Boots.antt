-- A boot leaves the copies on the disk as they are.
use Rattle.std.proofs.Common.{◌≡◌, ℕ, zero, suc, Bool, true, false, cond, List, [], ◌∷◌, Option, Some, None, refl, ◌∙◌}
use Rattle.the_run.specs.of_role_steps.declared.copies.FileCopy.{FileCopy}
use Rattle.the_run.specs.Disks.{Disk, Armed, BootWrite, ClosesLosing, WritesBody, OpensHalf, ClosesOther, ClosesGate, boot_writes, written, is_left_written, Booted, Whole, CutOff, boots, boots_armed, boots_freely}

written_copies : (x : BootWrite) (d : Disk) → (written x d).copies ≡ d.copies
written_copies ClosesLosing d = refl
written_copies WritesBody d = refl
written_copies OpensHalf d = refl
written_copies ClosesOther d = refl
written_copies (ClosesGate file) d = refl

freely_copies : (xs : List BootWrite) (d : Disk) → (boots_freely xs d).copies ≡ d.copies
freely_copies [] d = refl
freely_copies (x ∷ xs) d = freely_copies xs (written x d) ∙ written_copies x d

abbrev pub KeepsCopies : List FileCopy → Booted → Type 0
KeepsCopies copies (Whole d a) = d.copies ≡ copies
KeepsCopies copies (CutOff d how) = d.copies ≡ copies

cut_off_copies : (b : Bool) (x : BootWrite) (d : Disk) → (cond b (written x d) d).copies ≡ d.copies
cut_off_copies true x d = written_copies x d
cut_off_copies false x d = refl

armed_copies : (a : Armed) (left : ℕ) (xs : List BootWrite) (d : Disk) (copies : List FileCopy) → d.copies ≡ copies → KeepsCopies copies (boots_armed a left xs d)
armed_copies a left [] d copies e = e
armed_copies a zero (x ∷ xs) d copies e = cut_off_copies (is_left_written a.how true x) x d ∙ e
armed_copies a (suc zero) (x ∷ xs) d copies e = cut_off_copies (is_left_written a.how false x) x d ∙ e
armed_copies a (suc (suc left)) (x ∷ xs) d copies e = armed_copies a left xs (written x d) copies (written_copies x d ∙ e)

pub boots_copies : (o : Option Armed) (d : Disk) → KeepsCopies d.copies (boots o d)
boots_copies None d = freely_copies (boot_writes d) d
boots_copies (Some a) d = armed_copies a a.left (boot_writes d) d d.copies refl
