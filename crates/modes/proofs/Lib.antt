pub mod Limits
pub mod Stream
mod Pads
pub mod CcmFormat
pub mod CcmPass
mod CcmShort
pub mod Numbers
pub mod Named
pub mod BothWays
pub mod CcmLaws
pub mod Gctr
pub mod GcmTagged
pub mod GcmLaws
pub mod Laws
