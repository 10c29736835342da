use Rattle.waits.proofs.Intergreens.{line-intergreens, spliced-intergreens, turned-intergreens}
use Rattle.waits.proofs.laws.law_of_intergreens.Goals as goal

pub returns-clause-turns : goal.returns-clause-turns
returns-clause-turns c = λ plan stops head to until look. turned-intergreens plan look stops head to until

pub returns-clause-serves : goal.returns-clause-serves
returns-clause-serves c = λ plan p head h reach ks ss servings by look until near soon. line-intergreens plan look p ks ss head by until h reach servings near soon

pub returns-clause-splices : goal.returns-clause-splices
returns-clause-splices c = λ plan p intergreen old next now head lawful at goes before intergreens. spliced-intergreens plan p.phases intergreen old next now head lawful at goes before intergreens
