-- The call that some words are, as a function of the words. No words are two calls, since the first word tells the form.
use Rattle.std.specs.Prelude.{ℕ, List, codes, Option, Some, None, cond, ◌-◌}
use Rattle.std.specs.Option.{option_and_then, option_map}
use Rattle.std.specs.Str.{bytes_eq}
use Rattle.locus_ids.specs.Sizes.{file_bytes_max, descriptor_span}
use Rattle.trace_book.specs.declared.call.Call.{Call}
use Rattle.trace_book.specs.declared.call.Call.TheVariants as call
use Rattle.trace_book.specs.declared.call.OpenMode.{OpenMode}
use Rattle.trace_book.specs.declared.call.OpenMode.TheVariants as how
use Rattle.line_text.specs.Words.{hex_in, number_in, site_in, sites_in, three_words, two_words, word_in}
use Rattle.line_text.specs.declared.call_word.CallWord.{CallWord}
use Rattle.line_text.specs.declared.call_word.CallWord.TheVariants as word

abbrev pub call_word : List ℕ → Option CallWord
call_word w =
    cond (bytes_eq w (codes "create")) (Some word.Create) (
    cond (bytes_eq w (codes "mkdir")) (Some word.MakeDir) (
    cond (bytes_eq w (codes "unlink")) (Some word.Unlink) (
    cond (bytes_eq w (codes "rmdir")) (Some word.RemoveDir) (
    cond (bytes_eq w (codes "rename")) (Some word.Rename) (
    cond (bytes_eq w (codes "list")) (Some word.List) (
    cond (bytes_eq w (codes "stat")) (Some word.Stat) (
    cond (bytes_eq w (codes "open")) (Some word.Open) (
    cond (bytes_eq w (codes "read")) (Some word.Read) (
    cond (bytes_eq w (codes "write")) (Some word.Write) (
    cond (bytes_eq w (codes "cut")) (Some word.Cut) (
    cond (bytes_eq w (codes "commit")) (Some word.Commit) (
    cond (bytes_eq w (codes "abort")) (Some word.Abort) (
    cond (bytes_eq w (codes "close")) (Some word.Close) (
    cond (bytes_eq w (codes "mail")) (Some word.Mail) (
    cond (bytes_eq w (codes "mails")) (Some word.Mails) None)))))))))))))))

abbrev pub descriptor_in : List ℕ → Option ℕ
descriptor_in w = number_in 0 (descriptor_span - 1) w

abbrev pub create_with : ℕ → List ℕ → Option (List ℕ × List ℕ) → Option Call
create_with n rest None = option_map (λ path. call.Create path None) (word_in rest)
create_with n rest (Some p) = option_and_then (λ sites. option_map (λ path. call.Create path (Some sites)) (word_in p.0)) (sites_in n 44 p.1)

abbrev pub create_call : ℕ → List ℕ → Option Call
create_call n rest = create_with n rest (two_words rest)

abbrev pub rename_call : List ℕ → Option Call
rename_call rest = option_and_then (λ p. option_and_then (λ path. option_map (λ name. call.Rename path name) (word_in p.1)) (word_in p.0)) (two_words rest)

abbrev pub mail_call : List ℕ → Option Call
mail_call rest = option_and_then (λ p. option_and_then (λ path. option_map (λ bytes. call.Mail path bytes) (hex_in 4096 p.1)) (word_in p.0)) (two_words rest)

abbrev pub resolve_mode : ℕ → Option (List ℕ × List ℕ) → Option OpenMode
resolve_mode n None = None
resolve_mode n (Some p) = cond (bytes_eq p.0 (codes "x")) (option_map (λ site. how.Resolve site) (site_in n p.1)) None

abbrev pub mode_in : ℕ → List ℕ → Option OpenMode
mode_in n w =
    cond (bytes_eq w (codes "r")) (Some how.Read) (
    cond (bytes_eq w (codes "w")) (Some how.Write) (
    cond (bytes_eq w (codes "s")) (Some how.Steady) (resolve_mode n (two_words w))))

abbrev pub open_call : ℕ → List ℕ → Option Call
open_call n rest = option_and_then (λ p. option_and_then (λ mode. option_map (λ path. call.Open path mode) (word_in p.0)) (mode_in n p.1)) (two_words rest)

abbrev pub read_call : List ℕ → Option Call
read_call rest =
    option_and_then (λ p. option_and_then (λ fd. option_and_then (λ at. option_map (λ len. call.Read fd at len) (number_in 0 4096 p.2)) (number_in 0 file_bytes_max p.1)) (descriptor_in p.0)) (three_words rest)

abbrev pub write_call : List ℕ → Option Call
write_call rest =
    option_and_then (λ p. option_and_then (λ fd. option_and_then (λ at. option_map (λ bytes. call.Write fd at bytes) (hex_in 4096 p.2)) (number_in 0 file_bytes_max p.1)) (descriptor_in p.0)) (three_words rest)

abbrev pub cut_call : List ℕ → Option Call
cut_call rest = option_and_then (λ p. option_and_then (λ fd. option_map (λ len. call.Cut fd len) (number_in 0 file_bytes_max p.1)) (descriptor_in p.0)) (two_words rest)

-- the call of this first word with these operands, in a cluster of n sites
abbrev pub call_with : ℕ → CallWord → List ℕ → Option Call
call_with n word.Create rest = create_call n rest
call_with n word.MakeDir rest = option_map (λ path. call.MakeDir path) (word_in rest)
call_with n word.Unlink rest = option_map (λ path. call.Unlink path) (word_in rest)
call_with n word.RemoveDir rest = option_map (λ path. call.RemoveDir path) (word_in rest)
call_with n word.Rename rest = rename_call rest
call_with n word.List rest = option_map (λ path. call.List path) (word_in rest)
call_with n word.Stat rest = option_map (λ path. call.Stat path) (word_in rest)
call_with n word.Open rest = open_call n rest
call_with n word.Read rest = read_call rest
call_with n word.Write rest = write_call rest
call_with n word.Cut rest = cut_call rest
call_with n word.Commit rest = option_map (λ fd. call.Commit fd) (descriptor_in rest)
call_with n word.Abort rest = option_map (λ fd. call.Abort fd) (descriptor_in rest)
call_with n word.Close rest = option_map (λ fd. call.Close fd) (descriptor_in rest)
call_with n word.Mail rest = mail_call rest
call_with n word.Mails rest = option_map (λ path. call.Mails path) (word_in rest)

-- the call that the words are, in a cluster of n sites
abbrev pub call_in : ℕ → List ℕ → Option Call
call_in n words = option_and_then (λ p. option_and_then (λ w. call_with n w p.1) (call_word p.0)) (two_words words)
