-- A call that a descriptor has answered asks nothing more: its script has come to its end, and no later record changes what its requests
-- were answered.
use Rattle.std.proofs.Common.{◌≡◌, ℕ, Bool, true, false, cond, List, [], ◌∷◌, length, take, Option, Some, None, refl, sym, ap, ◌∙◌, arith}
use Rattle.std.specs.Prelude.{suc, zero}
use Rattle.locus_ids.specs.declared.config.Mount.{Mount}
use Rattle.locus_ids.specs.declared.ids.FileId.{FileId}
use Rattle.locus_ids.specs.declared.ids.Kind.{Kind}
use Rattle.locus_ids.specs.declared.ids.Kind.TheVariants.{Dir, File}
use Rattle.locus_ids.specs.declared.refusal.Refusal.TheVariants.{BadName, NoStorage}
use Rattle.trace_book.specs.declared.call.Call.{Call}
use Rattle.trace_book.specs.declared.call.Call.TheVariants as call
use Rattle.trace_book.specs.declared.call.OpenMode.{OpenMode}
use Rattle.trace_book.specs.declared.descriptor.Beginning.{Beginning}
use Rattle.trace_book.specs.declared.descriptor.Beginning.TheVariants as begins
use Rattle.trace_book.specs.declared.operation.What.{What}
use Rattle.trace_book.specs.declared.operation.What.TheVariants as what
use Rattle.trace_book.specs.declared.reply.Reply.TheVariants as reply
use Rattle.call_rules.specs.Opening.{opens_file}
use Rattle.trace_book.specs.Names.{components}
use Rattle.call_rules.specs.Scripts.{begun_wants, named_wants, wants, where_packed}
use Rattle.call_rules.specs.Walks.{Asks, Fails, Strays, There, Walked, mounted_in, passes, root_of, walk, walked}
use Rattle.call_rules.specs.Words.{is_badly_named}
use Rattle.call_rules.specs.declared.answer.Answer.{Answer}
use Rattle.call_rules.specs.declared.answer.Answer.TheVariants as answer
use Rattle.call_rules.specs.declared.want.Want.{Want}
use Rattle.call_rules.specs.declared.want.Want.TheVariants as want
use Rattle.past_laws.proofs.CallsAsks.{is_request, packed_request}
use Rattle.past_laws.proofs.CallsFree.{opened_open}
use Rattle.past_laws.proofs.Names.{false_true}

-- an open is answered so that is granted
abbrev pub Opens : Answer → Type 0
Opens (answer.Opened inst ino) = Unit {0}
Opens (answer.Reading inst version) = Unit {0}
Opens _ = ⊥

opened_no : (how : OpenMode) (free : Option ℕ) (file : FileId) (a : Answer) → Opens a → is_request (opens_file how free file File (a ∷ [])) ≡ true → ⊥
opened_no how None file (answer.Opened inst ino) h e = false_true e
opened_no how (Some fd) file (answer.Opened inst ino) h e = false_true e
opened_no how None file (answer.Reading inst version) h e = false_true e
opened_no how (Some fd) file (answer.Reading inst version) h e = false_true e
opened_no how free file _ h e = absurd h

-- The walk of an open is there, and its open was granted.

pub record IsOpened (mounts : List Mount) (words : Call) (xs : List Answer) : Type 0 where
  pub path : List ℕ
  pub how : OpenMode
  pub is : words ≡ call.Open path how
  pub file : FileId
  pub last : Answer
  pub opens : Opens last
  pub there : walk mounts (components path) [] (root_of 0) Dir xs ≡ There file File (last ∷ [])

-- it asks nothing
pub opened_silent : (mounts : List Mount) (q : ℕ → Bool) (free : Option ℕ) (words : Call) (b : Beginning) (xs : List Answer) → IsOpened mounts words xs → is_request (wants mounts q free words b xs) ≡ true → ⊥
opened_silent mounts q free words b xs k h = at (packed_request q (named_wants mounts free words b xs) h)
  where
    by_walk : is_request (walked mounts (components k.path) xs (opens_file k.how free)) ≡ true → ⊥
    by_walk e = opened_no k.how free k.file k.last k.opens (rw k.there at e)

    by_words : (x : Beginning) → is_request (begun_wants mounts free (call.Open k.path k.how) x xs) ≡ true → ⊥
    by_words (begins.Denied why) e = false_true e
    by_words (begins.Uses at inst) e = false_true e
    by_words (begins.Walks id) e = by_walk e
    by_words (begins.Reopens kept last) e = false_true e
    by_words begins.Frees e = false_true e

    by_name : (x : Bool) → is_request (cond x (want.Give (reply.No BadName)) (begun_wants mounts free (call.Open k.path k.how) b xs)) ≡ true → ⊥
    by_name true e = false_true e
    by_name false e = by_words b e

    at : is_request (named_wants mounts free words b xs) ≡ true → ⊥
    at e = by_name (is_badly_named mounts (call.Open k.path k.how)) (ap (λ w. is_request (named_wants mounts free w b xs)) (sym k.is) ∙ e)

-- without its last answer it asks for the open, and never for a look

-- a walk without answers leaves none
walk_empty : (mounts : List Mount) (cs : List (List ℕ)) (reached : List ℕ) (at : FileId) (kind : Kind) (file : FileId) (k : Kind) (a : Answer) → walk mounts cs reached at kind [] ≡ There file k (a ∷ []) → ⊥
walk_empty mounts [] reached at kind file k a h = absurd (cc)
walk_empty mounts (c ∷ cs) reached at File file k a h = absurd (cc)
walk_empty mounts (c ∷ cs) reached at Dir file k a h = by (λ group. walk_empty mounts cs c (root_of group) Dir file k a) (mounted_in mounts at c) h
  where
    by : ((group : ℕ) → walk mounts cs c (root_of group) Dir [] ≡ There file k (a ∷ []) → ⊥) → (o : Option ℕ) → passes (walk mounts cs c) at c o [] ≡ There file k (a ∷ []) → ⊥
    by later (Some group) e = later group e
    by later None e = absurd (cc)

walk_init : (mounts : List Mount) (cs : List (List ℕ)) (reached : List ℕ) (at : FileId) (kind : Kind) (xs : List Answer) (n : ℕ) (file : FileId) (k : Kind) (a : Answer) → walk mounts cs reached at kind xs ≡ There file k (a ∷ []) → length xs ≡ suc n → walk mounts cs reached at kind (take n xs) ≡ There file k []
walk_init mounts [] reached at kind [] n file k a h l = absurd (omega arith)
walk_init mounts [] reached at kind (x ∷ []) n file k a h l = ap (λ m. There at kind (take m (x ∷ []))) (zero_of n l) ∙ cc
  where
    zero_of : (m : ℕ) → 1 ≡ suc m → m ≡ 0
    zero_of m e = omega arith
walk_init mounts [] reached at kind (x ∷ y ∷ ys) n file k a h l = absurd (cc)
walk_init mounts (c ∷ cs) reached at File xs n file k a h l = absurd (cc)
walk_init mounts (c ∷ cs) reached at Dir xs n file k a h l = by (λ g d ys m. walk_init mounts cs c g d ys m file k a) (mounted_in mounts at c) refl xs n h l
  where
    by : ((g : FileId) (d : Kind) (ys : List Answer) (m : ℕ) → walk mounts cs c g d ys ≡ There file k (a ∷ []) → length ys ≡ suc m → walk mounts cs c g d (take m ys) ≡ There file k []) → (o : Option ℕ) → mounted_in mounts at c ≡ o → (ys : List Answer) (m : ℕ) → passes (walk mounts cs c) at c o ys ≡ There file k (a ∷ []) → length ys ≡ suc m → passes (walk mounts cs c) at c o (take m ys) ≡ There file k []
    by later (Some group) e ys m j l = later (root_of group) Dir ys m j l
    by later None e [] m j l = absurd (omega arith)
    by later None e (answer.Entered ino kind ∷ []) m j l = absurd (walk_empty mounts cs c (record { group = at.group; ino = ino }) kind file k a j)
    by later None e (answer.Entered ino kind ∷ z ∷ rest) zero j l = absurd (omega arith)
    by later None e (answer.Entered ino kind ∷ z ∷ rest) (suc m) j l = later (record { group = at.group; ino = ino }) kind (z ∷ rest) m j (less l)
      where
        less : suc (suc (length rest)) ≡ suc (suc m) → suc (length rest) ≡ suc m
        less q = omega arith
    by later None e (answer.Refused why ∷ rest) m j l = absurd (cc)
    by later None e (_ ∷ rest) m j l = absurd (cc)

-- what asks for an open asks for no look
pub no_look : (mounts : List Mount) (q : ℕ → Bool) (free : Option ℕ) (words : Call) (b : Beginning) (xs : List Answer) (n : ℕ) → IsOpened mounts words xs → length xs ≡ suc n → (f : FileId) (w : What) → wants mounts q free words b (take n xs) ≡ want.Look f w → ⊥
no_look mounts q free words b xs n k l f w h = by_name (is_badly_named mounts (call.Open k.path k.how)) (ap (λ z. where_packed q (named_wants mounts free z b (take n xs))) (sym k.is) ∙ h)
  where
    init : walk mounts (components k.path) [] (root_of 0) Dir (take n xs) ≡ There k.file File []
    init = walk_init mounts (components k.path) [] (root_of 0) Dir xs n k.file File k.last k.there l

    of_open : (x : Bool) → cond x (want.Open k.file k.how) (want.Give (reply.No NoStorage)) ≡ want.Look f w → ⊥
    of_open true e = cc
    of_open false e = cc

    by_begin : (x : Beginning) → where_packed q (begun_wants mounts free (call.Open k.path k.how) x (take n xs)) ≡ want.Look f w → ⊥
    by_begin (begins.Denied why) e = cc
    by_begin (begins.Uses at inst) e = cc
    by_begin (begins.Walks id) e = of_open (q k.file.group) (rw init at e)
    by_begin (begins.Reopens kept last) e = cc
    by_begin begins.Frees e = cc

    by_name : (x : Bool) → where_packed q (cond x (want.Give (reply.No BadName)) (begun_wants mounts free (call.Open k.path k.how) b (take n xs))) ≡ want.Look f w → ⊥
    by_name true e = cc
    by_name false e = by_begin b e

-- A script that gives a descriptor is at this end.

pub opened_is : (mounts : List Mount) (q : ℕ → Bool) (free : Option ℕ) (words : Call) (b : Beginning) (xs : List Answer) (fd : ℕ) → wants mounts q free words b xs ≡ want.Give (reply.Opened fd) → IsOpened mounts words xs
opened_is mounts q free (call.Open path how) b xs fd h = by_name (is_badly_named mounts (call.Open path how)) h
  where
    ends : (file : FileId) (kind : Kind) (rest : List Answer) (o : Option ℕ) → where_packed q (opens_file how o file kind rest) ≡ want.Give (reply.Opened fd) → walk mounts (components path) [] (root_of 0) Dir xs ≡ There file kind rest → IsOpened mounts (call.Open path how) xs
    ends file Dir rest o e j = absurd (cc)
    ends file File [] o e j = packed (q file.group) e
      where
        packed : (x : Bool) → cond x (want.Open file how) (want.Give (reply.No NoStorage)) ≡ want.Give (reply.Opened fd) → IsOpened mounts (call.Open path how) xs
        packed true k = absurd (cc)
        packed false k = absurd (cc)
    ends file File (answer.Opened i ino ∷ []) o e j = record { path = path; how = how; is = refl; file = file; last = answer.Opened i ino; opens = tt; there = j }
    ends file File (answer.Reading i version ∷ []) o e j = record { path = path; how = how; is = refl; file = file; last = answer.Reading i version; opens = tt; there = j }
    ends file File (answer.Reading i version ∷ y ∷ ys) None e j = absurd (cc)
    ends file File (answer.Reading i version ∷ y ∷ ys) (Some n) e j = absurd (cc)
    ends file File (answer.Refused why ∷ []) None e j = absurd (cc)
    ends file File (answer.Refused why ∷ []) (Some n) e j = absurd (cc)
    ends file File (answer.Opened i ino ∷ y ∷ ys) None e j = absurd (cc)
    ends file File (answer.Opened i ino ∷ y ∷ ys) (Some n) e j = absurd (cc)
    ends file File (_ ∷ ys) None e j = absurd (cc)
    ends file File (_ ∷ ys) (Some n) e j = absurd (cc)

    by_walk : (x : Walked) → walk mounts (components path) [] (root_of 0) Dir xs ≡ x → where_packed q (walked mounts (components path) xs (opens_file how free)) ≡ want.Give (reply.Opened fd) → IsOpened mounts (call.Open path how) xs
    by_walk (Asks dir c) j e = packed (q dir.group) (rw j at e)
      where
        packed : (x : Bool) → cond x (want.Look dir (what.Name c)) (want.Give (reply.No NoStorage)) ≡ want.Give (reply.Opened fd) → IsOpened mounts (call.Open path how) xs
        packed true k = absurd (cc)
        packed false k = absurd (cc)
    by_walk (Fails why) j e = no_give (rw j at e)
      where
        no_give : ◌≡◌ {A = Want} (want.Give (reply.No why)) (want.Give (reply.Opened fd)) → IsOpened mounts (call.Open path how) xs
        no_give k = absurd (cc)
    by_walk (There file kind rest) j e = ends file kind rest free (rw j at e) j
    by_walk Strays j e = never (rw j at e)
      where
        never : ◌≡◌ {A = Want} want.Never (want.Give (reply.Opened fd)) → IsOpened mounts (call.Open path how) xs
        never k = absurd (cc)

    by_begin : (x : Beginning) → where_packed q (begun_wants mounts free (call.Open path how) x xs) ≡ want.Give (reply.Opened fd) → IsOpened mounts (call.Open path how) xs
    by_begin (begins.Denied why) e = absurd (cc)
    by_begin (begins.Uses at inst) e = absurd (cc)
    by_begin (begins.Walks id) e = by_walk (walk mounts (components path) [] (root_of 0) Dir xs) refl e
    by_begin (begins.Reopens kept last) e = absurd (cc)
    by_begin begins.Frees e = absurd (cc)

    by_name : (x : Bool) → where_packed q (cond x (want.Give (reply.No BadName)) (begun_wants mounts free (call.Open path how) b xs)) ≡ want.Give (reply.Opened fd) → IsOpened mounts (call.Open path how) xs
    by_name true e = absurd (cc)
    by_name false e = by_begin b e
opened_is mounts q free words b xs fd h = false_true (opened_open mounts q free words b xs fd h)
