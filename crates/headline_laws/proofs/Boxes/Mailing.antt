-- The script of mail: it asks to insert one entry, once, under the name of its call.
use Rattle.std.proofs.Common.{◌≡◌, ℕ, Bool, true, false, cond, List, [], ◌∷◌, ◌++◌, Option, Some, None, sym, ◌∙◌, subst, inl, inr}
use Rattle.locus_ids.specs.declared.config.Mount.{Mount}
use Rattle.locus_ids.specs.declared.ids.CallId.{CallId}
use Rattle.locus_ids.specs.declared.ids.FileId.{FileId}
use Rattle.locus_ids.specs.declared.ids.Kind.{Kind}
use Rattle.locus_ids.specs.declared.ids.Kind.TheVariants as kind
use Rattle.locus_ids.specs.declared.ids.Serial.{Serial}
use Rattle.locus_ids.specs.declared.refusal.Refusal.TheVariants as refusal
use Rattle.locus_ids.specs.declared.sites.Sites.{Sites}
use Rattle.trace_book.specs.Messages.{message_name}
use Rattle.trace_book.specs.Names.{components, last_of}
use Rattle.trace_book.specs.declared.call.Call.TheVariants as call
use Rattle.trace_book.specs.declared.descriptor.Beginning.TheVariants as begins
use Rattle.trace_book.specs.declared.operation.Op.{Op}
use Rattle.trace_book.specs.declared.operation.Op.TheVariants as op
use Rattle.trace_book.specs.declared.reply.Reply.{Reply}
use Rattle.trace_book.specs.declared.reply.Reply.TheVariants as reply
use Rattle.call_rules.specs.Mailing.{tells_name}
use Rattle.call_rules.specs.Making.{after_insert, after_make, after_probe, fills, opens_dir, probes}
use Rattle.call_rules.specs.Scripts.{begun_wants, named_wants, path_wants, wants, where_packed}
use Rattle.call_rules.specs.Walks.{mounted_in, passes, root_of, walk}
use Rattle.call_rules.specs.Words.{is_badly_named}
use Rattle.call_rules.specs.declared.answer.Answer.{Answer}
use Rattle.call_rules.specs.declared.answer.Answer.TheVariants as answer
use Rattle.call_rules.specs.declared.want.Want.{Want}
use Rattle.call_rules.specs.declared.want.Want.TheVariants as want
use Rattle.tree_laws.proofs.Holding.{Script}
use Rattle.rest_laws.proofs.of_store_laws.OneTree.RemoveScripts.{IsOr, goes, goes_walked, packed_is}
use Rattle.rest_laws.proofs.Fits.EntryAsked.{IsOfDirs, Parts, close_all_so, give_up_one, give_up_two}

-- ---- what inserts nothing ----

abbrev NotInsert : Want → Type 0
NotInsert (want.Do i (op.Insert name ino kd)) = ⊥
NotInsert _ = Unit {0}

dirs_insert_none : (i : Serial) (o : Op) → IsOfDirs o → NotInsert (want.Do i o)
dirs_insert_none i (op.Insert name ino kd) k = k
dirs_insert_none i _ k = tt

none : Parts NotInsert
none = record { gives = λ r. tt; never = tt; closes = λ i. tt; does = dirs_insert_none; opens = λ f m. tt; mends = λ f. tt; makes = λ g k sites. tt; looks = λ f w k. tt }

-- ---- one insert ----

-- The script asks to insert an entry of this name alone, and where it has asked so it doesn't again.
pub record Once (name : List ℕ) (k : Script) : Type 0 where
  pub named : (xs : List Answer) (i : Serial) (n : List ℕ) (ino : ℕ) (kd : Kind) → k xs ≡ want.Do i (op.Insert n ino kd) → n ≡ name
  pub once : (xs : List Answer) (a : Answer) (ys : List Answer) (i j : Serial) (n m : List ℕ) (ino jno : ℕ) (kd ld : Kind) → k xs ≡ want.Do i (op.Insert n ino kd) → k (xs ++ a ∷ ys) ≡ want.Do j (op.Insert m jno ld) → ⊥

none_once : (name : List ℕ) (k : Script) → ((xs : List Answer) → NotInsert (k xs)) → Once name k
none_once name k quiet = record { named = λ xs i n ino kd e. absurd (subst NotInsert e (quiet xs)); once = λ xs a ys i j n m ino jno kd ld e q. subst NotInsert e (quiet xs) }

-- what isn't asked at first, and once after any answer
after_once : (name : List ℕ) (k : Script) → NotInsert (k []) → ((a : Answer) → Once name (λ ys. k (a ∷ ys))) → Once name k
after_once name k quiet rest = record { named = named; once = once }
  where
    named : (xs : List Answer) (i : Serial) (n : List ℕ) (ino : ℕ) (kd : Kind) → k xs ≡ want.Do i (op.Insert n ino kd) → n ≡ name
    named [] i n ino kd e = absurd (subst NotInsert e quiet)
    named (a ∷ xs) i n ino kd e = (rest a).named xs i n ino kd e

    once : (xs : List Answer) (a : Answer) (ys : List Answer) (i j : Serial) (n m : List ℕ) (ino jno : ℕ) (kd ld : Kind) → k xs ≡ want.Do i (op.Insert n ino kd) → k (xs ++ a ∷ ys) ≡ want.Do j (op.Insert m jno ld) → ⊥
    once [] a ys i j n m ino jno kd ld e q = subst NotInsert e quiet
    once (x ∷ xs) a ys i j n m ino jno kd ld e q = (rest x).once xs a ys i j n m ino jno kd ld e q

same_once : (name : List ℕ) (k l : Script) → ((ys : List Answer) → k ys ≡ l ys) → Once name k → Once name l
same_once name k l same o = record {
  named = λ xs i n ino kd e. o.named xs i n ino kd (same xs ∙ e);
  once = λ xs a ys i j n m ino jno kd ld e q. o.once xs a ys i j n m ino jno kd ld (same xs ∙ e) (same (xs ++ a ∷ ys) ∙ q);
}

-- ---- the end of the script ----

module _ (name : List ℕ) (kd : Kind) where
  insert_name : (p i : Serial) (n : List ℕ) (m ino : ℕ) (k : Kind) → want.Do p (op.Insert name m kd) ≡ want.Do i (op.Insert n ino k) → n ≡ name
  insert_name p i n m ino k e = cc

  inserted_once : (p : Serial) (m : ℕ) (told : Reply) → Once name (after_insert p name kd m told)
  inserted_once p m told = record { named = named; once = once }
    where
      later : (a : Answer) (xs : List Answer) → NotInsert (after_insert p name kd m told (a ∷ xs))
      later (answer.Did o) xs = close_all_so NotInsert none (p ∷ []) told xs
      later (answer.Refused why) xs = give_up_one NotInsert none p why xs
      later _ xs = tt

      named : (xs : List Answer) (i : Serial) (n : List ℕ) (ino : ℕ) (k : Kind) → after_insert p name kd m told xs ≡ want.Do i (op.Insert n ino k) → n ≡ name
      named [] i n ino k e = insert_name p i n m ino k e
      named (a ∷ xs) i n ino k e = absurd (subst NotInsert e (later a xs))

      once : (xs : List Answer) (a : Answer) (ys : List Answer) (i j : Serial) (n w : List ℕ) (ino jno : ℕ) (k l : Kind) → after_insert p name kd m told xs ≡ want.Do i (op.Insert n ino k) → after_insert p name kd m told (xs ++ a ∷ ys) ≡ want.Do j (op.Insert w jno l) → ⊥
      once [] a ys i j n w ino jno k l e q = subst NotInsert q (later a ys)
      once (x ∷ xs) a ys i j n w ino jno k l e q = subst NotInsert e (later x xs)

  made_once : (p made : Serial) (m : ℕ) (told : Reply) → Once name (after_make p name kd made m told)
  made_once p made m told = after_once name (after_make p name kd made m told) tt rest
    where
      rest : (a : Answer) → Once name (λ ys. after_make p name kd made m told (a ∷ ys))
      rest (answer.Ended s) = inserted_once p m told
      rest (answer.Refused why) = none_once name _ (λ xs. give_up_one NotInsert none p why xs)
      rest _ = none_once name _ (λ xs. tt)

  filled_once : (p made : Serial) (m : ℕ) (told : Reply) (bytes : List ℕ) → Once name (fills p name kd bytes made m told)
  filled_once p made m told [] = made_once p made m told
  filled_once p made m told (b ∷ bs) = after_once name (fills p name kd (b ∷ bs) made m told) tt rest
    where
      rest : (a : Answer) → Once name (λ ys. fills p name kd (b ∷ bs) made m told (a ∷ ys))
      rest (answer.Did o) = made_once p made m told
      rest (answer.Refused why) = none_once name _ (λ xs. give_up_two NotInsert none made p why xs)
      rest _ = none_once name _ (λ xs. tt)

  module _ (sites : Option Sites) (bytes : List ℕ) (tells : ℕ → Reply) where
    probed_once : (p : Serial) (group : ℕ) → Once name (after_probe p group name kd sites bytes tells)
    probed_once p group = after_once name (after_probe p group name kd sites bytes tells) tt rest
      where
        rest : (a : Answer) → Once name (λ ys. after_probe p group name kd sites bytes tells (a ∷ ys))
        rest (answer.Opened made m) = filled_once p made m (tells m) bytes
        rest (answer.Refused why) = none_once name _ (λ xs. give_up_one NotInsert none p why xs)
        rest _ = none_once name _ (λ xs. tt)

    probes_once : (p : Serial) (group : ℕ) → Once name (probes p group name kd sites bytes tells)
    probes_once p group = after_once name (probes p group name kd sites bytes tells) tt rest
      where
        rest : (a : Answer) → Once name (λ ys. probes p group name kd sites bytes tells (a ∷ ys))
        rest (answer.Did o) = probed_once p group
        rest (answer.Refused why) = none_once name _ (λ xs. give_up_one NotInsert none p why xs)
        rest _ = none_once name _ (λ xs. tt)

    opens_once : (reached : List ℕ) (dir : FileId) (at : Kind) → Once name (opens_dir reached (λ q rest. probes q dir.group name kd sites bytes tells rest) dir at)
    opens_once reached dir kind.File = none_once name _ (λ xs. tt)
    opens_once reached dir kind.Dir = after_once name (opens_dir reached (λ q rest. probes q dir.group name kd sites bytes tells rest) dir kind.Dir) tt rest
      where
        rest : (a : Answer) → Once name (λ ys. opens_dir reached (λ q zs. probes q dir.group name kd sites bytes tells zs) dir kind.Dir (a ∷ ys))
        rest (answer.Opened p number) = probes_once p dir.group
        rest (answer.Refused why) = none_once name _ (λ xs. tt)
        rest _ = none_once name _ (λ xs. tt)

-- ---- the walk before it ----

module _ (name : List ℕ) (mounts : List Mount) (after : FileId → Kind → Script) (each : (f : FileId) (k : Kind) → Once name (after f k)) where
  walk_once : (cs : List (List ℕ)) (reached : List ℕ) (at : FileId) (k : Kind) → Once name (λ ys. goes after (walk mounts cs reached at k ys))
  walk_once [] reached at k = each at k
  walk_once (c ∷ cs) reached at kind.File = none_once name _ (λ xs. tt)
  walk_once (c ∷ cs) reached at kind.Dir = over (λ f k. walk_once cs c f k) (mounted_in mounts at c)
    where
      over : ((f : FileId) (k : Kind) → Once name (λ ys. goes after (walk mounts cs c f k ys))) → (m : Option ℕ) → Once name (λ ys. goes after (passes (walk mounts cs c) at c m ys))
      over later (Some g) = later (root_of g) kind.Dir
      over later None = after_once name (λ ys. goes after (passes (walk mounts cs c) at c None ys)) tt rest
        where
          rest : (a : Answer) → Once name (λ ys. goes after (passes (walk mounts cs c) at c None (a ∷ ys)))
          rest (answer.Entered m k) = later (record { group = at.group; ino = m }) k
          rest (answer.Refused why) = none_once name _ (λ xs. tt)
          rest _ = none_once name _ (λ xs. tt)

-- ---- the whole script ----

box_once : (mounts : List Mount) (free : Option ℕ) (id : CallId) (path bytes : List ℕ) → Once (message_name id) (path_wants mounts free id (call.Mail path bytes))
box_once mounts free id path bytes = same_once (message_name id) (λ ys. goes after (walk mounts (components path) [] (root_of 0) kind.Dir ys)) (path_wants mounts free id (call.Mail path bytes)) (goes_walked mounts (components path) after)
    (walk_once (message_name id) mounts after (λ f k. opens_once (message_name id) kind.File None bytes (tells_name (message_name id)) (last_of (components path)) f k) (components path) [] (root_of 0) kind.Dir)
  where
    after : FileId → Kind → Script
    after dir at rest = opens_dir (last_of (components path)) (λ p more. probes p dir.group (message_name id) kind.File None bytes (tells_name (message_name id)) more) dir at rest

named_once : (mounts : List Mount) (free : Option ℕ) (id : CallId) (path bytes : List ℕ) → Once (message_name id) (named_wants mounts free (call.Mail path bytes) (begins.Walks id))
named_once mounts free id path bytes = over (is_badly_named mounts (call.Mail path bytes))
  where
    over : (b : Bool) → Once (message_name id) (λ ys. cond b (want.Give (reply.No refusal.BadName)) (begun_wants mounts free (call.Mail path bytes) (begins.Walks id) ys))
    over true = none_once (message_name id) _ (λ xs. tt)
    over false = box_once mounts free id path bytes

unpacked : (p : ℕ → Bool) (w : Want) (i : Serial) (n : List ℕ) (ino : ℕ) (k : Kind) → where_packed p w ≡ want.Do i (op.Insert n ino k) → w ≡ want.Do i (op.Insert n ino k)
unpacked p w i n ino k e = over (packed_is p w)
  where
    over : IsOr (where_packed p w) w → w ≡ want.Do i (op.Insert n ino k)
    over (inl q) = sym q ∙ e
    over (inr q) = absurd (subst NotInsert (sym q ∙ e) tt)

-- what a mail asks
pub mail_once : (mounts : List Mount) (p : ℕ → Bool) (free : Option ℕ) (id : CallId) (path bytes : List ℕ) → Once (message_name id) (wants mounts p free (call.Mail path bytes) (begins.Walks id))
mail_once mounts p free id path bytes = record {
  named = λ xs i n ino kd e. o.named xs i n ino kd (unpacked p (named_wants mounts free (call.Mail path bytes) (begins.Walks id) xs) i n ino kd e);
  once = λ xs a ys i j n m ino jno kd ld e q. o.once xs a ys i j n m ino jno kd ld (unpacked p (named_wants mounts free (call.Mail path bytes) (begins.Walks id) xs) i n ino kd e) (unpacked p (named_wants mounts free (call.Mail path bytes) (begins.Walks id) (xs ++ a ∷ ys)) j m jno ld q);
}
  where
    o : Once (message_name id) (named_wants mounts free (call.Mail path bytes) (begins.Walks id))
    o = named_once mounts free id path bytes
