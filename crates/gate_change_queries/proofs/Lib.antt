mod ChangeReads
mod ChangeTexts
mod DeliveryReads
mod ReadyNeedingReads
mod ReadyReads
