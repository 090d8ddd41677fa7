-- What a record says that was asked, with what it gave, as functions of the bytes.
use Rattle.std.specs.Prelude.{ℕ, ◌==◌, cond, codes, List, Option, None}
use Rattle.std.specs.Option.{option_and_then, option_map}
use Rattle.std.specs.Str.{bytes_eq}
use Rattle.locus_ids.specs.Sizes.{file_bytes_max, sites_max}
use Rattle.trace_book.specs.declared.call.Call.{Call}
use Rattle.trace_book.specs.declared.call.Call.TheVariants as call
use Rattle.trace_book.specs.declared.operation.Op.{Op}
use Rattle.trace_book.specs.declared.operation.Op.TheVariants as op
use Rattle.trace_book.specs.declared.operation.Outcome.{Outcome}
use Rattle.trace_book.specs.declared.operation.Served.{Served}
use Rattle.trace_book.specs.declared.operation.What.{What}
use Rattle.trace_book.specs.declared.operation.What.TheVariants as what
use Rattle.line_text.specs.CallReader.{call_in}
use Rattle.line_text.specs.Words.{hex_in, number_in, two_words}
use Rattle.record_words.specs.Answers.{committed_in, done_in, found_in, read_in, served_in}
use Rattle.record_reading.specs.AsRead.{served_stamp}
use Rattle.record_words.specs.Fields.{component_in, file_in, inode_in, kind_in, name_in, words_in}

-- a place in a file, or a length of one
abbrev pub place_in : List ℕ → Option ℕ
place_in word = number_in 0 file_bytes_max word

-- ---- operations, each with its result

abbrev pub probe_in : List ℕ → Option (Op × Outcome)
probe_in rest = option_map (λ t. (op.Probe t.0, t.1)) (words_in name_in done_in rest)

abbrev pub find_in : List ℕ → Option (Op × Outcome)
find_in rest = option_map (λ t. (op.Find t.0, t.1)) (words_in component_in found_in rest)

abbrev pub insert_in : List ℕ → Option (Op × Outcome)
insert_in rest = option_map (λ t. (op.Insert t.0 t.1.0 t.1.1.0, t.1.1.1)) (words_in name_in (words_in inode_in (words_in kind_in done_in)) rest)

abbrev pub remove_in : List ℕ → Option (Op × Outcome)
remove_in rest = option_map (λ t. (op.Remove t.0 t.1.0, t.1.1)) (words_in name_in (words_in inode_in done_in) rest)

abbrev pub rename_in : List ℕ → Option (Op × Outcome)
rename_in rest = option_map (λ t. (op.Rename t.0 t.1.0, t.1.1)) (words_in component_in (words_in name_in done_in) rest)

abbrev pub read_act_in : List ℕ → Option (Op × Outcome)
read_act_in rest = option_map (λ t. (op.Read t.0 t.1.0, t.1.1)) (words_in place_in (words_in (number_in 0 4096) read_in) rest)

abbrev pub write_in : List ℕ → Option (Op × Outcome)
write_in rest = option_map (λ t. (op.Write t.0 t.1.0, t.1.1)) (words_in place_in (words_in (hex_in 4096) done_in) rest)

abbrev pub cut_in : List ℕ → Option (Op × Outcome)
cut_in rest = option_map (λ t. (op.Cut t.0, t.1)) (words_in place_in done_in rest)

-- an operation on the content of a file: its first word, and what follows
abbrev pub content_act : List ℕ → List ℕ → Option (Op × Outcome)
content_act w rest =
    cond (bytes_eq w (codes "read")) (read_act_in rest) (
    cond (bytes_eq w (codes "write")) (write_in rest) (
    cond (bytes_eq w (codes "cut")) (cut_in rest) (
    cond (bytes_eq w (codes "commit")) (option_map (λ o. (op.Commit, o)) (committed_in rest)) (
    cond (bytes_eq w (codes "abort")) (option_map (λ o. (op.Abort, o)) (done_in rest)) None))))

abbrev pub act_with : List ℕ → List ℕ → Option (Op × Outcome)
act_with w rest =
    cond (bytes_eq w (codes "probe")) (probe_in rest) (
    cond (bytes_eq w (codes "find")) (find_in rest) (
    cond (bytes_eq w (codes "insert")) (insert_in rest) (
    cond (bytes_eq w (codes "remove")) (remove_in rest) (
    cond (bytes_eq w (codes "rename")) (rename_in rest) (
    cond (bytes_eq w (codes "empty")) (option_map (λ o. (op.Empty, o)) (done_in rest)) (
    cond (bytes_eq w (codes "mend")) (option_map (λ o. (op.Mend, o)) (done_in rest)) (content_act w rest)))))))

-- an operation with its result
abbrev pub act_in : List ℕ → Option (Op × Outcome)
act_in bytes = option_and_then (λ p. act_with p.0 p.1) (two_words bytes)

-- ---- looks

abbrev pub look_with : List ℕ → List ℕ → Option (What × Served)
look_with w rest =
    cond (bytes_eq w (codes "name")) (option_map (λ t. (what.Name t.0, t.1)) (words_in component_in served_in rest)) (
    cond (bytes_eq w (codes "list")) (option_map (λ s. (what.List, s)) (served_in rest)) (
    cond (bytes_eq w (codes "stat")) (option_map (λ s. (what.Stat, s)) (served_in rest)) (
    cond (bytes_eq w (codes "whole")) (option_map (λ s. (what.Whole (served_stamp s), s)) (served_in rest)) None)))

-- what is looked up, with what is served
abbrev pub look_in : List ℕ → Option (What × Served)
look_in bytes = option_and_then (λ p. look_with p.0 p.1) (two_words bytes)

-- ---- calls

abbrev pub mend_in : List ℕ → Option Call
mend_in bytes = option_and_then (λ p. cond (bytes_eq p.0 (codes "mend")) (option_map (λ file. call.Mend file) (file_in p.1)) None) (two_words bytes)

-- the words of a call of this process
abbrev pub call_words_in : ℕ → List ℕ → Option Call
call_words_in process bytes = cond (process == 0) (mend_in bytes) (call_in sites_max bytes)
