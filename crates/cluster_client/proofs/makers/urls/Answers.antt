use Rattle.std.proofs.Common.{◌<◌, length, arith, rules, subst}
use Rattle.std.proofs.lemmas.List.{take_all}
use Rattle.std.proofs.lemmas.List.Elements.{All-nil, All-more}
use Rattle.connection_info.specs.Written.{ReadsBack}
use Rattle.cluster_client.specs.Settings.{ReadBack, RefusesMaking}
use Rattle.cluster_client.proofs.Refusing.{passed_on, refused_among, texts_more}
use Rattle.cluster_client.proofs.makers.urls.Goals as goal

pub returns-in_err-text-clause-err : goal.returns-in_err-text-clause-err
returns-in_err-text-clause-err c =
    let nodes = c.args.nodes.now in
    let within : c.loop-node.node-index < length nodes = omega arith in
    passed_on c.from_residual.result c.in_err-text.field-0.0 (RefusesMaking nodes) c.from_residual.ensures.1
    (refused_among nodes c.loop-node.node-index c.node-item.result c.in_err-text.field-0.0 within c.node-item.is c.in_err-text.ensures.err)

pub loop-node-init : goal.loop-node-init
unfolding ReadBack
loop-node-init c = record { texts = search rules; read = All-nil ReadsBack }

pub loop-node-preserved : goal.loop-node-preserved
unfolding ReadBack
loop-node-preserved c =
    let nodes = c.args.nodes.now in
    let i = c.loop-node.node-index in
    let within : i < length nodes = omega arith in
    record {
      texts = texts_more nodes i c.node-item.result c.loop-node.texts c.push.new.self c.in_ok-text.text within c.node-item.is c.loop-node.invariant.texts c.in_ok-text.ensures.value c.in_ok-push.ensures.ok;
      read = All-more ReadsBack nodes i c.node-item.result within c.loop-node.invariant.read (subst ReadsBack c.node-item.is c.in_ok-text.ensures.ok);
    }

pub returns-clause-read : goal.returns-clause-read
returns-clause-read c = subst ReadBack (take_all c.loop-node.node-index c.args.nodes.now (omega arith)) c.loop-node.invariant.read
