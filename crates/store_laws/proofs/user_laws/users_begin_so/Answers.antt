use Rattle.store_laws.proofs.Users.Booting.{first_users, booted_users}
use Rattle.store_laws.proofs.user_laws.users_begin_so.Goals as goal

pub returns : goal.returns
returns c = record {
  first = λ config me. first_users config me;
  boots = λ config n me boot older h may. booted_users config n me boot older h may;
}
