-- What a reply makes of the past: a descriptor more, one that is held again, a directory that stays unmended, or only that the call waits no
-- more.
use Rattle.std.proofs.Common.{◌≡◌, ℕ, ◌==◌, Bool, true, false, ◌&&◌, ◌||◌, cond, List, [], ◌∷◌, ◌++◌, map, Option, Some, None, refl, ap, ◌∙◌}
use Rattle.std.specs.List.{list_any}
use Rattle.std.proofs.lemmas.Bool.{and_parts}
use Rattle.locus_ids.specs.declared.ids.FileId.{FileId}
use Rattle.locus_ids.specs.declared.ids.EpochId.{EpochId}
use Rattle.locus_ids.specs.declared.refusal.Refusal.{Refusal}
use Rattle.trace_book.specs.declared.call.Call.{Call}
use Rattle.trace_book.specs.declared.call.Call.TheVariants as call
use Rattle.trace_book.specs.declared.descriptor.Descriptor.{Descriptor}
use Rattle.trace_book.specs.declared.reply.Reply.{Reply}
use Rattle.trace_book.specs.declared.reply.Reply.TheVariants as reply
use Rattle.tree_model.specs.Epochs.{is_in}
use Rattle.tree_model.specs.Working.{list_of}
use Rattle.promises.specs.Past.{Past, CallSoFar, Epoch, Instance, Named, Site, is_named}
use Rattle.promises.specs.After.{change, held_again, held_by, is_epoch, is_id, is_read_by, is_reading, left_unmended, named_by, once_named, replied_to, taken_by}
use Rattle.past_laws.proofs.Names.{epoch_turned, number_eq}
use Rattle.audit_sites.specs.Rows.{holds_again}
use Rattle.audit_past.specs.Replying.{holds_in, is_reading_by, names_in, reads_by, unmends_in}

-- a change of none, and one that changes nothing
pub change_never : {X : Type 0} (f : X → X) (xs : List X) → change (λ x. false) f xs ≡ xs
change_never f [] = refl
change_never f (x ∷ xs) = ap (λ ys. x ∷ ys) (change_never f xs)

pub change_idle : {X : Type 0} (q : X → Bool) (xs : List X) → change q (λ x. x) xs ≡ xs
change_idle q [] = refl
change_idle {X} q (x ∷ xs) = at (q x) (change_idle q xs)
  where
    at : (b : Bool) → change q (λ y. y) xs ≡ xs → cond b x x ∷ change q (λ y. y) xs ≡ x ∷ xs
    at true later = ap (λ ys. x ∷ ys) later
    at false later = ap (λ ys. x ∷ ys) later

map_like : {X Y : Type 0} (f g : X → Y) → ((x : X) → f x ≡ g x) → (xs : List X) → map f xs ≡ map g xs
map_like f g same [] = refl
map_like f g same (x ∷ xs) = ap (λ y. y ∷ map f xs) (same x) ∙ ap (λ ys. g x ∷ ys) (map_like f g same xs)

change_like : {X : Type 0} (q : X → Bool) (f g : X → X) → ((x : X) → f x ≡ g x) → (xs : List X) → change q f xs ≡ change q g xs
change_like q f g same xs = map_like (λ x. cond (q x) (f x) x) (λ x. cond (q x) (g x) x) (λ x. ap (λ y. cond (q x) y x) (same x)) xs

-- what a reply makes of an epoch, by the instances that it names and what becomes of them
abbrev pub replied_epoch : List Descriptor → (Instance → Instance) → Option EpochId → List FileId → Epoch → Epoch
replied_epoch named name home lost t = record t {
  opened = change (λ (x : Instance). list_any (λ (d : Descriptor). is_in (Some d.epoch) t.id && is_named d.inst x) named) name t.opened;
  unmended = cond (is_in home t.id) lost [] ++ t.unmended;
}

idle : (b : Bool) (fs : List FileId) → cond b [] [] ++ fs ≡ fs
idle true fs = refl
idle false fs = refl

named_one : (d : Descriptor) (name : Instance → Instance) (home : Option EpochId) (t : Epoch) → replied_epoch (d ∷ []) name home [] t ≡ cond (is_epoch d.epoch t) (record t { opened = change (is_named d.inst) name t.opened }) t
named_one d name home t = ap (λ fs. record (replied_epoch (d ∷ []) name home [] t) { unmended = fs }) (idle (is_in home t.id) t.unmended) ∙ (ap (λ b. record t { opened = change (λ (x : Instance). (b && is_named d.inst x) || false) name t.opened }) (epoch_turned d.epoch t.id) ∙ at (is_epoch d.epoch t))
  where
    or_false : (b : Bool) → (b || false) ≡ b
    or_false true = refl
    or_false false = refl

    tests : (xs : List Instance) → change (λ (x : Instance). (true && is_named d.inst x) || false) name xs ≡ change (is_named d.inst) name xs
    tests xs = map_like (λ (x : Instance). cond ((true && is_named d.inst x) || false) (name x) x) (λ (x : Instance). cond (is_named d.inst x) (name x) x) (λ x. ap (λ b. cond b (name x) x) (or_false (is_named d.inst x))) xs

    at : (b : Bool) → record t { opened = change (λ (x : Instance). (b && is_named d.inst x) || false) name t.opened } ≡ cond b (record t { opened = change (is_named d.inst) name t.opened }) t
    at true = ap (λ xs. record t { opened = xs }) (tests t.opened)
    at false = ap (λ xs. record t { opened = xs }) (change_never name t.opened)

lost_one : (name : Instance → Instance) (home : Option EpochId) (f : FileId) (t : Epoch) → replied_epoch [] name home (f ∷ []) t ≡ cond (is_in home t.id) (unmends_in f t) t
lost_one name home f t = ap (λ xs. record (replied_epoch [] name home (f ∷ []) t) { opened = xs }) (change_never name t.opened) ∙ at (is_in home t.id)
  where
    at : (b : Bool) → record t { unmended = cond b (f ∷ []) [] ++ t.unmended } ≡ cond b (record t { unmended = f ∷ t.unmended }) t
    at true = refl
    at false = refl

plain_one : (name : Instance → Instance) (home : Option EpochId) (t : Epoch) → replied_epoch [] name home [] t ≡ t
plain_one name home t = ap (λ xs. record (replied_epoch [] name home [] t) { opened = xs }) (change_never name t.opened) ∙ ap (λ fs. record t { unmended = fs }) (idle (is_in home t.id) t.unmended)

itself : {X : Type 0} (xs : List X) → map (λ x. x) xs ≡ xs
itself [] = refl
itself (x ∷ xs) = ap (λ ys. x ∷ ys) (itself xs)

-- ---- what is held again ----

-- where no instance is named, nothing is
no_read : (words : Call) (process : ℕ) (g : Option Descriptor) → cond (is_reading words) (list_of g) [] ≡ [] → (ds : List Named) → change (is_read_by words process) (held_by g) ds ≡ ds
no_read (call.Read fd at len) process None h ds = change_idle (is_read_by (call.Read fd at len) process) ds
no_read (call.Read fd at len) process (Some d) h ds = absurd (cc)
no_read _ process g h ds = change_never (held_by g) ds

still_held : (r : Reply) (k : CallSoFar) → named_by r k ≡ [] → (ds : List Named) → held_again r k ds ≡ ds
still_held (reply.Data bytes) k h ds = no_read k.words k.process k.granted h ds
still_held _ k h ds = refl

-- the number that the call reads by
held_as : (words : Call) (mine process fd : ℕ) (d : Descriptor) (g : Option Descriptor) → (mine == process) ≡ true → reads_by fd words ≡ true → cond (is_reading words) (list_of g) [] ≡ d ∷ [] → (ds : List Named) → change (is_read_by words mine) (held_by g) ds ≡ change (λ (x : Named). (x.process == process) && (x.fd == fd)) (held_by (Some d)) ds
held_as (call.Read n at len) mine process fd d (Some e) p q h ds =
    let same : e ≡ d = cc in
    ap (λ (m : ℕ). change (λ (x : Named). (x.process == m) && (x.fd == n)) (held_by (Some e)) ds) (number_eq mine process p)
    ∙ (ap (λ (m : ℕ). change (λ (x : Named). (x.process == process) && (x.fd == m)) (held_by (Some e)) ds) (number_eq n fd q)
    ∙ ap (λ (y : Descriptor). change (λ (x : Named). (x.process == process) && (x.fd == fd)) (held_by (Some y)) ds) same)
held_as (call.Read n at len) mine process fd d None p q h ds = absurd (cc)
held_as _ mine process fd d g p q h ds = absurd (cc)

-- ---- what a reply is by its parts ----

abbrev pub replied_by : (List Named → List Named) → List Descriptor → (Instance → Instance) → List FileId → CallSoFar → Past → Past
replied_by held named name lost k p = record p {
  sites = change (λ (s : Site). s.number == k.id.site) (λ (s : Site). record s { descriptors = held s.descriptors }) p.sites;
  calls = change (is_id k.id) (λ (x : CallSoFar). record x { waits = false }) p.calls;
  epochs = map (replied_epoch named name k.epoch lost) p.epochs;
}

replied_as : (r : Reply) (k : CallSoFar) (p : Past) (held : List Named → List Named) (named : List Descriptor) (lost : List FileId) → ((ds : List Named) → taken_by r k ++ held_again r k ds ≡ held ds) → named_by r k ≡ named → left_unmended r k.words ≡ lost → replied_to r k p ≡ replied_by held named (once_named r) lost k p
replied_as r k p held named lost h n l =
    ap (λ (ss : List Site). record (replied_by (λ ds. ds) (named_by r k) (once_named r) (left_unmended r k.words) k p) { sites = ss })
    (change_like (λ (s : Site). s.number == k.id.site) (λ (s : Site). record s { descriptors = taken_by r k ++ held_again r k s.descriptors }) (λ (s : Site). record s { descriptors = held s.descriptors }) (λ s. ap (λ (ds : List Named). record s { descriptors = ds }) (h s.descriptors)) p.sites)
    ∙ (ap (λ (ns : List Descriptor). replied_by held ns (once_named r) (left_unmended r k.words) k p) n
    ∙ ap (λ (fs : List FileId). replied_by held named (once_named r) fs k p) l)

-- a descriptor is taken
pub replied_named : (fd : ℕ) (k : CallSoFar) (p : Past) (d : Named) → taken_by (reply.Opened fd) k ≡ d ∷ [] → named_by (reply.Opened fd) k ≡ d.names ∷ [] →
    replied_to (reply.Opened fd) k p ≡ record p {
      sites = change (λ (s : Site). s.number == k.id.site) (λ (s : Site). record s { descriptors = d ∷ s.descriptors }) p.sites;
      calls = change (is_id k.id) (λ (x : CallSoFar). record x { waits = false }) p.calls;
      epochs = change (is_epoch d.names.epoch) (names_in d.names.inst) p.epochs;
    }
replied_named fd k p d taken named =
    replied_as (reply.Opened fd) k p (λ ds. d ∷ ds) (d.names ∷ []) [] (λ ds. ap (λ (ns : List Named). ns ++ ds) taken) named refl
    ∙ ap (λ (ts : List Epoch). record (replied_by (λ ds. d ∷ ds) (d.names ∷ []) (once_named (reply.Opened fd)) [] k p) { epochs = ts })
    (map_like (replied_epoch (d.names ∷ []) (once_named (reply.Opened fd)) k.epoch []) (λ (t : Epoch). cond (is_epoch d.names.epoch t) (names_in d.names.inst t) t) (named_one d.names (once_named (reply.Opened fd)) k.epoch) p.epochs)

-- a descriptor is held again
pub replied_again : (bytes : List ℕ) (k : CallSoFar) (p : Past) (process fd : ℕ) (d : Descriptor) → is_reading_by process fd k ≡ true → named_by (reply.Data bytes) k ≡ d ∷ [] →
    replied_to (reply.Data bytes) k p ≡ record p {
      sites = change (λ (s : Site). s.number == k.id.site) (holds_again process fd d) p.sites;
      calls = change (is_id k.id) (λ (x : CallSoFar). record x { waits = false }) p.calls;
      epochs = change (is_epoch d.epoch) (holds_in d.inst) p.epochs;
    }
replied_again bytes k p process fd d reads named =
    let parts : ((k.process == process) ≡ true) × (reads_by fd k.words ≡ true) = and_parts (k.process == process) (reads_by fd k.words) reads in
    let held : List Named → List Named = λ ds. change (λ (x : Named). (x.process == process) && (x.fd == fd)) (held_by (Some d)) ds in
    replied_as (reply.Data bytes) k p held (d ∷ []) [] (λ ds. held_as k.words k.process process fd d k.granted parts.0 parts.1 named ds) named refl
    ∙ ap (λ (ts : List Epoch). record (replied_by held (d ∷ []) (once_named (reply.Data bytes)) [] k p) { epochs = ts })
    (map_like (replied_epoch (d ∷ []) (once_named (reply.Data bytes)) k.epoch []) (λ (t : Epoch). cond (is_epoch d.epoch t) (holds_in d.inst t) t) (named_one d (once_named (reply.Data bytes)) k.epoch) p.epochs)

-- a directory stays unmended
pub replied_lost : (why : Refusal) (k : CallSoFar) (p : Past) (f : FileId) → left_unmended (reply.No why) k.words ≡ f ∷ [] →
    replied_to (reply.No why) k p ≡ record p {
      calls = change (is_id k.id) (λ (x : CallSoFar). record x { waits = false }) p.calls;
      epochs = change (λ (t : Epoch). is_in k.epoch t.id) (unmends_in f) p.epochs;
    }
replied_lost why k p f lost =
    replied_as (reply.No why) k p (λ ds. ds) [] (f ∷ []) (λ ds. refl) refl lost
    ∙ (ap (λ (ts : List Epoch). record (replied_by (λ ds. ds) [] (once_named (reply.No why)) (f ∷ []) k p) { epochs = ts })
    (map_like (replied_epoch [] (once_named (reply.No why)) k.epoch (f ∷ [])) (λ (t : Epoch). cond (is_in k.epoch t.id) (unmends_in f t) t) (lost_one (once_named (reply.No why)) k.epoch f) p.epochs)
    ∙ ap (λ (ss : List Site). record p { sites = ss; calls = change (is_id k.id) (λ (x : CallSoFar). record x { waits = false }) p.calls; epochs = change (λ (t : Epoch). is_in k.epoch t.id) (unmends_in f) p.epochs }) (change_idle (λ (s : Site). s.number == k.id.site) p.sites))

-- or the call waits no more, and that is all
pub replied_plain : (r : Reply) (k : CallSoFar) (p : Past) → taken_by r k ≡ [] → named_by r k ≡ [] → left_unmended r k.words ≡ [] →
    replied_to r k p ≡ record p { calls = change (is_id k.id) (λ (x : CallSoFar). record x { waits = false }) p.calls }
replied_plain r k p taken named lost =
    replied_as r k p (λ ds. ds) [] [] (λ ds. ap (λ (ns : List Named). ns ++ held_again r k ds) taken ∙ still_held r k named ds) named lost
    ∙ (ap (λ (ts : List Epoch). record (replied_by (λ ds. ds) [] (once_named r) [] k p) { epochs = ts }) (map_like (replied_epoch [] (once_named r) k.epoch []) (λ t. t) (plain_one (once_named r) k.epoch) p.epochs ∙ itself p.epochs)
    ∙ ap (λ (ss : List Site). record p { sites = ss; calls = change (is_id k.id) (λ (x : CallSoFar). record x { waits = false }) p.calls }) (change_idle (λ (s : Site). s.number == k.id.site) p.sites))
