-- Which record stands for all records of one text. Two things aren't in the text: which version a whole look asked for, and,
-- of a reply's `ok`, which reply it is.
use Rattle.std.specs.Prelude.{cond, [], ◌∷◌, length, nat_le, None, Some}
use Rattle.locus_ids.specs.declared.ids.Stamp.{Stamp}
use Rattle.trace_book.specs.Text.{file_text, hex_text, kind_text, number, stamp_text}
use Rattle.trace_book.specs.declared.operation.Served.{Served}
use Rattle.trace_book.specs.declared.operation.Served.TheVariants as served
use Rattle.trace_book.specs.declared.operation.What.{What}
use Rattle.trace_book.specs.declared.operation.What.TheVariants as what
use Rattle.trace_book.specs.declared.record.Record.{Record}
use Rattle.trace_book.specs.declared.record.Record.TheVariants.{Look, Answer}
use Rattle.trace_book.specs.declared.reply.Reply.{Reply}
use Rattle.trace_book.specs.declared.reply.Reply.TheVariants as reply

-- of an empty root
abbrev pub first_stamp : Stamp
first_stamp = record { site = 0; n = 0 }

-- the version that is served, since no other can be lawful; where a look is refused, the one that stands for all
abbrev pub served_stamp : Served → Stamp
served_stamp (served.At stamp) = stamp
served_stamp (served.No why) = first_stamp

abbrev pub what_as_read : What → Served → What
what_as_read (what.Name component) s = what.Name component
what_as_read what.List s = what.List
what_as_read what.Stat s = what.Stat
what_as_read (what.Whole stamp) s = what.Whole (served_stamp s)

-- An ok is read as the words behind it, since which reply it is depends on the call. Only bytes that are too many for a
-- word of names stay bytes.
abbrev pub reply_as_read : Reply → Reply
reply_as_read (reply.Made ino) = reply.Names (number ino ∷ [])
reply_as_read reply.Done = reply.Names []
reply_as_read (reply.Names names) = reply.Names names
reply_as_read (reply.Stat kind file size stamp) = reply.Names (kind_text kind ∷ file_text file ∷ number size ∷ stamp_text stamp ∷ [])
reply_as_read (reply.Opened fd) = reply.Names (number fd ∷ [])
reply_as_read (reply.Data bytes) = cond (nat_le (length bytes) 30) (reply.Names (hex_text bytes ∷ [])) (reply.Data bytes)
reply_as_read (reply.Committed stamp) = reply.Names (stamp_text stamp ∷ [])
reply_as_read (reply.Closed None) = reply.Names []
reply_as_read (reply.Closed (Some stamp)) = reply.Names (stamp_text stamp ∷ [])
reply_as_read (reply.No why) = reply.No why

abbrev pub as_read : Record → Record
as_read (Look epoch call request file what result) = Look epoch call request file (what_as_read what result) result
as_read (Answer site process call reply) = Answer site process call (reply_as_read reply)
as_read other = other
