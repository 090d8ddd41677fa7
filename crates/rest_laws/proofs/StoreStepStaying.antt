-- Whatever comes as it may, with what other laws give of it, keeps what packets ask of the order of versions; and no mend is refused for
-- a count that is at its end.
use Rattle.std.proofs.Common.{ℕ, List, [], ◌∷◌}
use Rattle.locus_ids.specs.declared.config.Config.{Config}
use Rattle.trace_book.specs.declared.record.Record.{Record}
use Rattle.trace_book.specs.declared.record.Record.TheVariants as says
use Rattle.role_steps.specs.Own.{Every}
use Rattle.role_steps.specs.Views.{Told, Shown}
use Rattle.the_run.specs.Worlds.{Line}
use Rattle.store_laws.specs.Rests.{AllStays, UnspentTold}
use Rattle.store_laws.specs.OneTree.Rest.{AllRest, Past, RangeTold, more}
use Rattle.store_laws.proofs.OneTree.Staying.{stays}

pub all_stay : (c : Config) (n : ℕ) (told : List Told) (trace : List Line) → Past c trace → AllRest c n trace told → AllStays c n trace told
all_stay c n [] trace past rest = tt
all_stay c n (x ∷ xs) trace past rest = λ may.
    ((stays c).all n x trace (record { past = past; may = may; rest = rest.0 }), all_stay c n xs (more n x trace) (record { followed = (may, past.followed); rest = record { each = (rest.0, past.rest.each); packs = past.rest.packs } }) rest.1)

unspent_record : (c : Config) (r : Record) → RangeTold c (Shown r) → UnspentTold (Shown r)
unspent_record c (says.Act e inst n o result) k = k
unspent_record c _ k = tt

unspent_one : (c : Config) (x : Told) → RangeTold c x → UnspentTold x
unspent_one c (Shown r) k = unspent_record c r k
unspent_one c _ k = tt

pub unspent_told : (c : Config) (n : ℕ) (told : List Told) (trace : List Line) → AllRest c n trace told → Every UnspentTold told
unspent_told c n [] trace rest = tt
unspent_told c n (x ∷ xs) trace rest = (unspent_one c x rest.0.range, unspent_told c n xs (more n x trace) rest.1)
