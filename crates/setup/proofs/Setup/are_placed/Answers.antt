use Rattle.std.proofs.Common.{◌||◌, get_or, is_some, None, rules, ◌∙◌, refl, tests, arith}
use Rattle.sets.specs.Sets.{has}
use Rattle.sets.proofs.Lists.{all_range}
use Rattle.std.proofs.lemmas.Iterator.{YieldsList-from_range}
use Rattle.std.proofs.lemmas.Iterator.Search.{all_from_yields_List}
use Rattle.setup.proofs.Setup.are_placed.Goals as goal

pub returns : goal.returns
returns g c =
    let n = c.args.self.now.n in
    let each = λ (j : _). has c.args.self.now.faulty j || is_some (get_or c.args.places.now j None) in
    all_from_yields_List each _ _ _ c.all.ensures.ran (YieldsList-from_range 0 n n refl (omega arith)) (λ x b q k. search (rules, tests))
    ∙ all_range n each
