-- The forms of single words that keep no list.
use Rattle.std.proofs.Common.{◌≡◌, ℕ, ◌==◌, true, codes, List, ◌∷◌, ◌++◌, refl, sym, append_assoc, lit<}
use Rattle.std.specs.Prelude.{◌&&◌, not}
use Rattle.std.specs.Fmt.{decimal}
use Rattle.locus_ids.specs.Sizes.{inodes_max, sites_max}
use Rattle.locus_ids.specs.declared.ids.Brought.{Brought}
use Rattle.locus_ids.specs.declared.ids.CallId.{CallId}
use Rattle.locus_ids.specs.declared.ids.EpochId.{EpochId}
use Rattle.locus_ids.specs.declared.ids.FileId.{FileId}
use Rattle.locus_ids.specs.declared.ids.Serial.{Serial}
use Rattle.locus_ids.specs.declared.ids.Stamp.{Stamp}
use Rattle.trace_book.specs.Text.{call_id_text, epoch_text, file_text, serial_text, stamp_text}
use Rattle.schedule_lines.specs.Ranges.{is_between}
use Rattle.record_words.specs.Fields.{any_site_in, brought_in, call_id_in, counted_in, epoch_in, file_from, group_in, inode_in, instance_in, process_in, request_in, short_in, stamp_in}
use Rattle.record_words.specs.Order.{agrees, number_max}
use Rattle.record_reading.specs.Ranges.{is_any_site, is_brought, is_call_id, is_counted, is_epoch, is_group, is_inode, is_instance, is_process, is_request, is_short, is_stamp}
use Rattle.record_reading.proofs.Bytes.{is_digit_byte}
use Rattle.record_reading.proofs.Forms.{Word, joined_word, letter_word, made_word, number_free, number_word, tested_word, told_word}

pub site_word : Word 32 decimal is_any_site any_site_in
site_word = number_word 32 1 sites_max refl (lit< tt)

pub counted_word : Word 32 decimal is_counted counted_in
counted_word = number_word 32 1 number_max refl (lit< tt)

pub process_word : Word 32 decimal is_process process_in
process_word = number_word 32 0 8 refl (lit< tt)

pub group_word : Word 32 decimal is_group group_in
group_word = number_word 32 0 3 refl (lit< tt)

pub inode_word : Word 32 decimal is_inode inode_in
inode_word = number_word 32 1 inodes_max refl (lit< tt)

pub short_word : Word 32 decimal is_short short_in
short_word = number_word 32 0 65535 refl (lit< tt)

pub request_word : Word 32 decimal is_request request_in
request_word = number_word 32 1 65535 refl (lit< tt)

-- a stamp, which has neither a space nor a comma
pub stamp_word : (b : ℕ) → not (is_digit_byte b) ≡ true → not (46 == b) ≡ true → Word b stamp_text is_stamp stamp_in
stamp_word b digit dot =
    made_word b (λ (t : ℕ × ℕ). record { site = t.0; n = t.1 }) (λ (s : Stamp). (s.site, s.n)) (λ s. refl)
    (λ t. sym (append_assoc (decimal t.0) (codes ".") (decimal t.1))) (λ t. refl)
    (tested_word b (λ (t : ℕ × ℕ). agrees t.0 t.1) (joined_word b 46 dot (number_free 46 0 sites_max refl (lit< tt))
    (number_word b 0 sites_max digit (lit< tt)) (number_word b 0 number_max digit (lit< tt))))

pub file_word : (low : ℕ) → Word 32 file_text (λ f. is_group f.group && is_between low inodes_max f.ino) (file_from low)
file_word low =
    made_word 32 (λ (t : ℕ × ℕ). record { group = t.0; ino = t.1 }) (λ (f : FileId). (f.group, f.ino)) (λ f. refl)
    (λ t. sym (append_assoc (decimal t.0) (codes ".") (decimal t.1))) (λ t. refl)
    (joined_word 32 46 refl (number_free 46 0 3 refl (lit< tt)) group_word (number_word 32 low inodes_max refl (lit< tt)))

-- what stands behind the letter
abbrev epoch_tail : EpochId → List ℕ
epoch_tail e = decimal e.number ++ (46 ∷ (decimal e.site ++ (46 ∷ decimal e.boot)))

pub epoch_word : Word 32 epoch_text is_epoch epoch_in
epoch_word =
    told_word 32 (λ (e : EpochId). simp append_assoc) (λ e. refl) (letter_word 32 101 refl
    (made_word {tb = epoch_tail} 32 (λ (t : ℕ × (ℕ × ℕ)). record { number = t.0; site = t.1.0; boot = t.1.1 }) (λ (e : EpochId). (e.number, (e.site, e.boot))) (λ e. refl) (λ t. refl) (λ t. refl)
    (joined_word 32 46 refl (number_free 46 1 number_max refl (lit< tt)) counted_word (joined_word 32 46 refl (number_free 46 1 sites_max refl (lit< tt)) site_word counted_word))))

abbrev call_tail : CallId → List ℕ
call_tail c = decimal c.site ++ (46 ∷ (decimal c.boot ++ (46 ∷ decimal c.n)))

pub call_word : Word 32 call_id_text is_call_id call_id_in
call_word =
    told_word 32 (λ (c : CallId). simp append_assoc) (λ c. refl) (letter_word 32 99 refl
    (made_word {tb = call_tail} 32 (λ (t : ℕ × (ℕ × ℕ)). record { site = t.0; boot = t.1.0; n = t.1.1 }) (λ (c : CallId). (c.site, (c.boot, c.n))) (λ c. refl) (λ t. refl) (λ t. refl)
    (joined_word 32 46 refl (number_free 46 1 sites_max refl (lit< tt)) site_word (joined_word 32 46 refl (number_free 46 1 number_max refl (lit< tt)) counted_word counted_word))))

abbrev instance_tail : Serial → List ℕ
instance_tail i = decimal i.us ++ (46 ∷ decimal i.serial)

pub instance_word : Word 32 serial_text is_instance instance_in
instance_word =
    told_word 32 (λ (i : Serial). simp append_assoc) (λ i. refl) (letter_word 32 105 refl
    (made_word {tb = instance_tail} 32 (λ (t : ℕ × ℕ). record { us = t.0; serial = t.1 }) (λ (i : Serial). (i.us, i.serial)) (λ i. refl) (λ t. refl) (λ t. refl)
    (joined_word 32 46 refl (number_free 46 1 sites_max refl (lit< tt)) site_word counted_word)))

-- an inode and a stamp
abbrev pub brought_text : Brought → List ℕ
brought_text b = decimal b.ino ++ (61 ∷ stamp_text b.stamp)

pub brought_word : Word 32 brought_text is_brought brought_in
brought_word =
    made_word 32 (λ (t : ℕ × Stamp). record { ino = t.0; stamp = t.1 }) (λ (b : Brought). (b.ino, b.stamp)) (λ b. refl) (λ t. refl) (λ t. refl)
    (joined_word 32 61 refl (number_free 61 1 inodes_max refl (lit< tt)) inode_word (stamp_word 32 refl refl))
