-- The answers of `find`: the code's table is the table of the words.
use Rattle.std.proofs.Common.{◌≡◌, ◌∙◌}
use Rattle.words.specs.Lookup.{lookup}
use Rattle.words.proofs.Lookup.{lookup_cases, names_lookup}
use Rattle.words.proofs.find.Goals as goal

pub returns : goal.returns
unfolding lookup
returns c =
    let found : c.find_in.result ≡ lookup c.args.run.now = c.find_in.ensures.value in
    record { named = lookup_cases c.args.run.now c.find_in.result found; only = λ w n. found ∙ names_lookup c.args.run.now w n; value = found }
