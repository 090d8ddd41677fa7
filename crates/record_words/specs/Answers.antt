-- What the last words of a record say: refusals, results and replies, as functions of the bytes.
use Rattle.std.specs.Prelude.{ℕ, cond, codes, List, [], Option, None, Some}
use Rattle.std.specs.Option.{option_and_then, option_map}
use Rattle.std.specs.Str.{bytes_eq}
use Rattle.locus_ids.specs.declared.ids.Stamp.{Stamp}
use Rattle.locus_ids.specs.declared.refusal.Refusal.{Refusal}
use Rattle.locus_ids.specs.declared.refusal.Refusal.TheVariants as refusal
use Rattle.trace_book.specs.declared.operation.Outcome.{Outcome}
use Rattle.trace_book.specs.declared.operation.Outcome.TheVariants as outcome
use Rattle.trace_book.specs.declared.operation.Served.{Served}
use Rattle.trace_book.specs.declared.operation.Served.TheVariants as served
use Rattle.trace_book.specs.declared.reply.Reply.{Reply}
use Rattle.trace_book.specs.declared.reply.Reply.TheVariants as reply
use Rattle.line_text.specs.Words.{hex_in, pieces, two_words}
use Rattle.record_words.specs.Fields.{all_in, any_site_in, component_in, data_in, epoch_in, inode_in, kind_in, process_in, short_in, stamp_in, words_in}

-- a refusal of one word
abbrev pub short_refusal : List ℕ → Option Refusal
short_refusal w =
    cond (bytes_eq w (codes "isdir")) (Some refusal.IsDir) (
    cond (bytes_eq w (codes "nostorage")) (Some refusal.NoStorage) (
    cond (bytes_eq w (codes "nopartition")) (Some refusal.NoPartition) (
    cond (bytes_eq w (codes "baddescriptor")) (Some refusal.BadDescriptor) (
    cond (bytes_eq w (codes "toolong")) (Some refusal.TooLong) (
    cond (bytes_eq w (codes "noinode")) (Some refusal.NoInode) (
    cond (bytes_eq w (codes "badname")) (Some refusal.BadName) (
    cond (bytes_eq w (codes "readonly")) (Some refusal.ReadOnly) (
    cond (bytes_eq w (codes "nodescriptor")) (Some refusal.NoDescriptor) (
    cond (bytes_eq w (codes "spent")) (Some refusal.Spent) (
    cond (bytes_eq w (codes "noconflict")) (Some refusal.NoConflict) None))))))))))

-- a refusal that names something: its first word, and what follows
abbrev pub long_refusal : List ℕ → List ℕ → Option Refusal
long_refusal w rest =
    cond (bytes_eq w (codes "busy")) (option_map (λ t. refusal.Busy t.0 t.1) (words_in any_site_in process_in rest)) (
    cond (bytes_eq w (codes "absent")) (option_map (λ name. refusal.Absent name) (component_in rest)) (
    cond (bytes_eq w (codes "notdir")) (option_map (λ name. refusal.NotDir name) (component_in rest)) (
    cond (bytes_eq w (codes "exists")) (option_map (λ ino. refusal.Exists ino) (inode_in rest)) (
    cond (bytes_eq w (codes "notempty")) (option_map (λ name. refusal.NotEmpty name) (component_in rest)) (
    cond (bytes_eq w (codes "conflict")) (option_map (λ t. refusal.Conflict t.0 t.1) (words_in stamp_in stamp_in rest)) (
    cond (bytes_eq w (codes "ambiguous")) (option_map (λ t. refusal.Ambiguous t.0 t.1) (words_in inode_in inode_in rest)) (
    cond (bytes_eq w (codes "changed")) (option_map (λ epoch. refusal.Changed epoch) (epoch_in rest)) (
    cond (bytes_eq w (codes "stale")) (option_map (λ epoch. refusal.Stale epoch) (epoch_in rest)) (
    cond (bytes_eq w (codes "nospace")) (option_map (λ t. refusal.NoSpace t.0 t.1) (words_in short_in short_in rest)) None)))))))))

abbrev pub refusal_of : List ℕ → Option (List ℕ × List ℕ) → Option Refusal
refusal_of bytes None = short_refusal bytes
refusal_of bytes (Some p) = long_refusal p.0 p.1

abbrev pub refusal_in : List ℕ → Option Refusal
refusal_in bytes = refusal_of bytes (two_words bytes)

-- a stamp, or a refusal
abbrev pub served_with : List ℕ → Option Stamp → Option Served
served_with bytes None = option_map (λ why. served.No why) (refusal_in bytes)
served_with bytes (Some stamp) = Some (served.At stamp)

abbrev pub served_in : List ℕ → Option Served
served_in bytes = served_with bytes (stamp_in bytes)

-- what follows `ok` and a space
abbrev pub after_ok : List ℕ → Option (List ℕ)
after_ok bytes = option_and_then (λ p. cond (bytes_eq p.0 (codes "ok")) (Some p.1) None) (two_words bytes)

abbrev pub refused_in : List ℕ → Option Outcome
refused_in bytes = option_map (λ why. outcome.No why) (refusal_in bytes)

-- the result of an operation that gives nothing
abbrev pub done_in : List ℕ → Option Outcome
done_in bytes = cond (bytes_eq bytes (codes "ok")) (Some outcome.Done) (refused_in bytes)

-- the result of an operation that gives something, which stands behind `ok`
abbrev pub result_with : (List ℕ → Option Outcome) → List ℕ → Option (List ℕ) → Option Outcome
result_with given bytes None = refused_in bytes
result_with given bytes (Some rest) = given rest

abbrev pub found_in : List ℕ → Option Outcome
found_in bytes = result_with (λ rest. option_map (λ t. outcome.Found t.0 t.1) (words_in inode_in kind_in rest)) bytes (after_ok bytes)

abbrev pub read_in : List ℕ → Option Outcome
read_in bytes = result_with (λ rest. option_map (λ bytes. outcome.Data bytes) (data_in 4096 rest)) bytes (after_ok bytes)

abbrev pub committed_in : List ℕ → Option Outcome
committed_in bytes = result_with (λ rest. option_map (λ stamp. outcome.Committed stamp) (stamp_in rest)) bytes (after_ok bytes)

-- the names behind an ok, or bytes that are too many for a name
abbrev pub names_or_data : List ℕ → Option (List (List ℕ)) → Option Reply
names_or_data rest None = option_map (λ bytes. reply.Data bytes) (hex_in 4096 rest)
names_or_data rest (Some names) = Some (reply.Names names)

abbrev pub reply_with : List ℕ → Option (List ℕ) → Option Reply
reply_with bytes None = cond (bytes_eq bytes (codes "ok")) (Some (reply.Names [])) (option_map (λ why. reply.No why) (refusal_in bytes))
reply_with bytes (Some rest) = names_or_data rest (all_in component_in (pieces 32 rest))

abbrev pub reply_in : List ℕ → Option Reply
reply_in bytes = reply_with bytes (after_ok bytes)
