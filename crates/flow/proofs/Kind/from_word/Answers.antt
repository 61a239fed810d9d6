-- `Kind::from_word` meets its contract: the first kind of the list whose word it is.
use mathlib.Core.Path.{◌∙◌}
use Rattle.std.proofs.Common.{rules}
use Rattle.std.proofs.lemmas.Iterator.{YieldsList-from_slice}
use Rattle.std.proofs.lemmas.Iterator.Search.{find_from_yields_List}
use Rattle.text.specs.Split.{same_word}
use Rattle.text.proofs.Words.{same_word_eq}
use Rattle.flow.specs.Words.{table, kinds, first_named}
use Rattle.flow.specs.declared.Kind.{Kind}
use Rattle.flow.proofs.Kind.from_word.Goals as goal

pub returns : goal.returns
unfolding first_named
returns c =
    let e = find_from_yields_List (λ (k : Kind). same_word c.args.w.now (table k).word) _ _ c.find.result c.find.ensures.ran (YieldsList-from_slice kinds (cc)) (λ x b q k. search (rules, same_word_eq)) in
    c.copied.ensures ∙ e
